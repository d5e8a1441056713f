-- What a read did, and how far a run of the shell has come.
use Rattle.std.proofs.Common.{◌≡◌, ℕ, ◌+◌, ◌-◌, ◌≤◌, ◌<◌, List, [], ◌++◌, length, take, refl, sym, ap, ◌∙◌, subst, Some, None, IfSome, arith, append_assoc, append-nil}
use Rattle.std.specs.declared.option.Option.{Option}
use Rattle.std.specs.Io.KnownBytes.{Appends, Consumes, IsAtEnd}
use Rattle.std.proofs.lemmas.List.{length-take-le, take-append-le}
use Rattle.std.proofs.Math.Seq.{take-append-add}
use Rattle.streams.specs.declared.Mode.{Mode}
use Rattle.places.specs.declared.Place.{Place}
use Rattle.places.specs.declared.Ask.{Ask}
use Rattle.places.specs.declared.Ask.TheVariants as ask
use Rattle.places.specs.Machine.{most, started, step_of, took_of, IsStep}
use Rattle.runs.specs.Whole.{Writes}
use Rattle.runs.specs.Whole.Writes.{closed, written, told, taken}
use Rattle.runs.proofs.Owes.{writes_log}
use Rattle.logger.specs.Shell.{TookPart, Logged}

-- where the bytes of the input and of the output are known
pub known : (mode : Mode) (size : ℕ) (input old new : Option (List ℕ)) → ((xs ys : List ℕ) → input ≡ Some xs → old ≡ Some ys → length xs ≤ most → Logged mode size xs ys new) →
    IfSome input (λ xs. length xs ≤ most → IfSome old (λ ys. Logged mode size xs ys new))
known mode size None old new f = tt
known mode size (Some xs) None new f = λ l. tt
known mode size (Some xs) (Some ys) new f = λ l. f xs ys refl refl l

-- ---- a read

-- the first n of old, then sub, of which k bytes came
module _ (q p : Place) (n k : ℕ) (old sub tail new : List ℕ) (room : n < length old) (long : length sub ≡ length old - n) (some : k ≤ length sub) (is : new ≡ take n old ++ (sub ++ tail)) (same : length new ≡ length old) (told : p ≡ took_of q k new) where
  part_long : length (take k sub) ≡ k
  part_long = length-take-le k sub some

  front_long : length (take n old) ≡ n
  front_long = length-take-le n old (omega arith)

  behind : take (n + length (take k sub)) new ≡ take n old ++ take k sub
  behind =
      ap (λ m. take (n + m) new) part_long ∙ (ap (λ l. take (n + k) l) is ∙
      (subst (λ m. take (m + k) (take n old ++ (sub ++ tail)) ≡ take n old ++ take k (sub ++ tail)) front_long (take-append-add (take n old) (sub ++ tail) k) ∙
      ap (λ l. take n old ++ l) (take-append-le k sub tail some)))

  pub took_part : (before after : Option (List ℕ)) → Consumes before after (take k sub) → (k ≡ 0 → 0 < length sub → IsAtEnd after) → IfSome before (λ xs. TookPart q n old new xs after p)
  took_part None after c e = tt
  took_part (Some xs) None c e = absurd c
  took_part (Some xs) (Some rest) c e = record {
    part = take k sub;
    rest = rest;
    came = c;
    others = refl;
    fits = omega (arith, part_long);
    ended = λ h. e (sym part_long ∙ ap length h) (omega arith);
    same_length = same;
    behind = behind;
    told = subst (λ m. p ≡ took_of q m new) (sym part_long) told;
  }

-- ---- a run

-- the shell has read all but rest of the input, and has written done behind what stood there: what the run still writes comes behind it
pub record Going (mode : Mode) (buf₀ out₀ xs ys : List ℕ) (p : Place) (buf out : List ℕ) (input output : Option (List ℕ)) : Type 0 where
  pub rest : List ℕ
  pub done : List ℕ
  pub input_is : input ≡ Some rest
  pub output_is : output ≡ Some (ys ++ done)
  pub goes_on : (t : List ℕ) → Writes p buf out rest t → Writes (started mode) buf₀ out₀ xs (done ++ t)

appended : (old : Option (List ℕ)) (ys done bs : List ℕ) (new : Option (List ℕ)) → old ≡ Some (ys ++ done) → Appends old new bs → new ≡ Some (ys ++ (done ++ bs))
appended old ys done bs new e a = go new (subst (λ o. Appends o new bs) e a)
  where
    go : (new : Option (List ℕ)) → Appends (Some (ys ++ done)) new bs → new ≡ Some (ys ++ (done ++ bs))
    go None a = absurd a
    go (Some zs) a = ap Some (a ∙ append_assoc ys done bs)

at : {p q : Place} {b c o u rest t : List ℕ} → p ≡ q → b ≡ c → o ≡ u → Writes p b o rest t → Writes q c u rest t
at {p} {q} {b} {c} {o} {u} {rest} {t} e f g w = subst (λ r. Writes r c u rest t) e (subst (λ l. Writes p l u rest t) f (subst (λ l. Writes p b l rest t) g w))

module _ (mode : Mode) (buf₀ out₀ xs ys : List ℕ) (p : Place) (buf out : List ℕ) (input output : Option (List ℕ)) (g : Going mode buf₀ out₀ xs ys p buf out input output) (q r : Place) (n : ℕ) (a : Ask) (buf' out' : List ℕ) (s : IsStep (step_of p buf out) a buf' out') where
  pub writes : (output' : Option (List ℕ)) → a ≡ ask.Write q n → Appends output output' (take n out') → r ≡ q → Going mode buf₀ out₀ xs ys r buf' out' input output'
  writes output' e new same = record {
    rest = g.rest;
    done = g.done ++ take n out';
    input_is = g.input_is;
    output_is = appended output ys g.done (take n out') output' g.output_is new;
    goes_on = λ t w.
        subst (Writes (started mode) buf₀ out₀ xs) (sym (append_assoc g.done (take n out') t))
        (g.goes_on (take n out' ++ t) (subst (λ o. Writes p buf out g.rest (take n o ++ t)) (sym s.text) (written q n (sym s.answer ∙ e) (at same s.buffer s.text w))));
  }

  pub tells : a ≡ ask.Tell q n → r ≡ q → Going mode buf₀ out₀ xs ys r buf' out' input output
  tells e same = record {
    rest = g.rest;
    done = g.done;
    input_is = g.input_is;
    output_is = g.output_is;
    goes_on = λ t w. g.goes_on t (told q n (sym s.answer ∙ e) (at same s.buffer s.text w));
  }

  pub reads : (new : List ℕ) (input' : Option (List ℕ)) → a ≡ ask.Read q n → length buf' ≡ length buf → IfSome input (λ left. TookPart q n buf' new left input' r) → Going mode buf₀ out₀ xs ys r new out' input' output
  reads new input' e same t = go (subst (λ o. IfSome o (λ left. TookPart q n buf' new left input' r)) g.input_is t)
    where
      go : TookPart q n buf' new g.rest input' r → Going mode buf₀ out₀ xs ys r new out' input' output
      go t = record {
        rest = t.rest;
        done = g.done;
        input_is = t.others;
        output_is = g.output_is;
        goes_on = λ u w.
            g.goes_on u (subst (λ left. Writes p buf out left u) (sym t.came)
            (taken q n t.part t.rest new (sym s.answer ∙ e) (omega (arith, t.fits, same)) t.ended (t.same_length ∙ same) (subst (λ l. take (n + length t.part) new ≡ take n l ++ t.part) s.buffer t.behind)
            (at t.told refl s.text w)));
      }

  pub ends : a ≡ ask.Closed → 1 ≤ length buf₀ → 128 ≤ length out₀ → length xs ≤ most → Logged mode (length buf₀) xs ys output
  ends e h k l = record {
    log = g.done ++ [];
    of_input = writes_log mode buf₀ out₀ xs (g.done ++ []) h k l (g.goes_on [] (closed (sym s.answer ∙ e)));
    written = g.output_is ∙ ap (λ l. Some (ys ++ l)) (sym (append-nil g.done));
  }
