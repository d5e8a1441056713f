-- How run dates are written (request 6): the same four forms, from the values to the text.
use Prim.Native.String.{String}
use Rattle.std.specs.Prelude.{◌≡◌, List, [], ◌∷◌, ◌++◌, map, Option, None, Some, ℕ, ◌≤◌, true}
use Rattle.common.specs.Ascii.{ascii}
use Rattle.calendar.specs.Calendar.{is_day, instant_of}
use Rattle.items.specs.declared.Item.{Item}
use Rattle.items.specs.Writing.{Writes}
use Rattle.dates.specs.declared.Form.{Form}
use Rattle.dates.specs.Dates.{items_of, moment_of, date_of}

-- items one behind the other, their values and the text
pub data Written : List Item → List ℕ → List ℕ → Type 0 where
  none : Written [] [] []
  next : {i : Item} {is : List Item} {v vs s t : List ℕ} → Writes i v s → Written is vs t → Written (i ∷ is) (v ++ vs) (s ++ t)

-- a text that is written in one of the forms, from values that are a day of the calendar, and its instant
pub record Dated (t : List ℕ) (i : ℕ) : Type 0 where
  pub form : Form
  pub values : List ℕ
  pub written : Written (items_of form) values t
  pub day : is_day (moment_of form values).year (moment_of form values).month (moment_of form values).day ≡ true
  pub instant : i ≡ instant_of (moment_of form values)

-- some texts and what they read as, to look at
pub record Specimen : Type 0 where
  pub text : String
  pub date : Option ℕ

abbrev pub reads : String → Option ℕ → Specimen
reads t d = record { text = t; date = d }

abbrev pub specimens : List Specimen
specimens =
    -- the request's own
    reads "05-Mar-21, 14:02:09" (Some 1646488929) ∷
    reads "5 Mar 21 2:02 pm" (Some 1646488920) ∷
    reads "5 Mar 21 2:02 pm +0100" (Some 1646488920) ∷
    reads "03/05/21 02:02:09 PM" (Some 1646488929) ∷
    -- midnight and noon, a leading zero, zones
    reads "01 JAN 69 12:00 aM" (Some 0) ∷
    reads "1 jan 69 12:00 Pm" (Some 43200) ∷
    reads "1 Jan 69 01:59 am -2359" (Some 7140) ∷
    reads "01/01/69 12:00:59 am" (Some 59) ∷
    reads "12/31/68 11:59:59 PM" (Some 3155759999) ∷
    -- each month
    reads "28-Jan-70, 00:00:00" (Some 33868800) ∷
    reads "28-Feb-70, 00:00:00" (Some 36547200) ∷
    reads "28-Mar-70, 00:00:00" (Some 38966400) ∷
    reads "28-Apr-70, 00:00:00" (Some 41644800) ∷
    reads "28-May-70, 00:00:00" (Some 44236800) ∷
    reads "28-Jun-70, 00:00:00" (Some 46915200) ∷
    reads "28-Jul-70, 00:00:00" (Some 49507200) ∷
    reads "28-Aug-70, 00:00:00" (Some 52185600) ∷
    reads "28-Sep-70, 00:00:00" (Some 54864000) ∷
    reads "28-Oct-70, 00:00:00" (Some 57456000) ∷
    reads "28-Nov-70, 00:00:00" (Some 60134400) ∷
    reads "28-Dec-70, 00:00:00" (Some 62726400) ∷
    -- centuries, the first and the last second
    reads "01-Jan-69, 00:00:00" (Some 0) ∷
    reads "31-Dec-99, 23:59:59" (Some 978220799) ∷
    reads "01-Jan-00, 00:00:00" (Some 978220800) ∷
    reads "31-dEC-68, 23:59:59" (Some 3155759999) ∷
    -- 29 February, and the ends of months
    reads "29-Feb-00, 00:00:00" (Some 983318400) ∷
    reads "29-Feb-01, 00:00:00" None ∷
    reads "30-Feb-00, 00:00:00" None ∷
    reads "31-Apr-21, 00:00:00" None ∷
    reads "00-Mar-21, 00:00:00" None ∷
    reads "32-Mar-21, 00:00:00" None ∷
    -- beyond a range
    reads "05-Mar-21, 24:02:09" None ∷
    reads "05-Mar-21, 14:60:09" None ∷
    reads "05-Mar-21, 14:02:60" None ∷
    reads "5 Mar 21 0:02 pm" None ∷
    reads "5 Mar 21 00:02 am" None ∷
    reads "5 Mar 21 13:02 pm" None ∷
    reads "5 Mar 21 2:60 pm" None ∷
    reads "0 Mar 21 2:02 pm" None ∷
    reads "5 Mar 21 2:02 pm +2400" None ∷
    reads "5 Mar 21 2:02 pm +0060" None ∷
    reads "13/05/21 02:02:09 PM" None ∷
    reads "00/05/21 02:02:09 PM" None ∷
    reads "03/05/21 00:02:09 AM" None ∷
    reads "03/05/21 13:02:09 AM" None ∷
    -- digits, blanks and signs that a form does not have
    reads "" None ∷
    reads "5-Mar-21, 14:02:09" None ∷
    reads "05-Mar-21,14:02:09" None ∷
    reads "05-Mar-21, 14:02:09 " None ∷
    reads " 05-Mar-21, 14:02:09" None ∷
    reads "05-Mar-21, 14:02:09 +0100" None ∷
    reads "3/05/21 02:02:09 PM" None ∷
    reads "5 Mar 21 2:2 pm" None ∷
    reads "005 Mar 21 2:02 pm" None ∷
    reads "5 Mar 2021 2:02 pm" None ∷
    reads "5 Mar 21  2:02 pm" None ∷
    reads "5 Mar 21 2:02pm" None ∷
    reads "5 Mar 21 2:02 pm+0100" None ∷
    reads "5 Mar 21 2:02 pm 0100" None ∷
    reads "5 Mar 21 2:02 pm +010" None ∷
    reads "5 March 21 2:02 pm" None ∷
    reads "5 Mae 21 2:02 pm" None ∷
    reads "5 Mar 21 2:02 xm" None ∷
    []

pub record FourForms : Type 0 where
  -- a text reads as an instant exactly when it is so written
  pub instants : (t : List ℕ) (i : ℕ) → date_of t ≡ Some i → Dated t i
  pub dated : (t : List ℕ) (i : ℕ) → Dated t i → date_of t ≡ Some i
  -- no text is of two forms, or of one in two ways
  pub one : (f g : Form) (t vs us : List ℕ) → Written (items_of f) vs t → Written (items_of g) us t → (f ≡ g) × (vs ≡ us)
  pub last : (t : List ℕ) (i : ℕ) → date_of t ≡ Some i → i ≤ 3155759999
  pub looked : map (λ x. date_of (ascii x.text)) specimens ≡ map (λ x. x.date) specimens
