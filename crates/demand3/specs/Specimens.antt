-- Document 01's marked specimens, in one list: an operation on an input, and what it must answer.
use Rattle.std.specs.Prelude.{◌≡◌, true, cond, List, [], ◌∷◌, ◌++◌, map, ℕ, ◌-◌, ◌/◌, ◌%◌, ℤ, pos, negsuc, eqb, length, replicate, drop}
use Rattle.std.specs.Float.{binary64}
use Rattle.std.specs.Float.Ieee.{of_int, to_bits}
use Rattle.rules.specs.Rule.{Read, got, stops, read}
use Rattle.rules.specs.Calls.{Reading, read_up_to}
use Rattle.error.specs.Number.{stop_number, closing_number}
use Rattle.agilent.specs.Header.{size_rule}
use Rattle.chemstation.specs.Next.{rule}
use Rattle.streams.specs.declared.State.{State}
use Rattle.streams.specs.declared.Record.{Record}
use Rattle.streams.specs.Next.{unscaled_of}
use Rattle.opening.specs.Opening.{start_rule}
use Rattle.modes.specs.Modes.{start_by}
use Rattle.streams.specs.declared.Mode.TheVariants.{Atlas}

pub data Operation : Type 0 where
  sizes : ℕ → ℕ → Operation  -- Size the header: a kind and a size word
  streams : ℕ → ℕ → List ℕ → Operation  -- Open, then the records, told last: a kind, the scans due and the bytes behind the header
  atlas : ℕ → ℕ → List ℕ → Operation  -- the same under the atlas reading
  atlas_file : ℕ → List ℕ → Operation  -- the same of a whole file: a kind and its bytes

pub data Reply : Type 0 where
  sized : ℕ → Reply  -- a header's size, in bytes
  refusal : ℕ → Reply  -- of a header, by its number
  gave : List ℕ → ℕ → Reply  -- the bits of the unscaled intensities, and the closing answer by its number
  left : ℕ → Reply → Reply  -- the same, and how many bytes stand unread behind the last record

-- ---- the files

abbrev zeros : ℕ → List ℕ
zeros n = replicate n 0

-- a u32, BE
abbrev word : ℕ → List ℕ
word n = (n / 16777216) ∷ (n / 65536 % 256) ∷ (n / 256 % 256) ∷ (n % 256) ∷ []

-- the edition at 248, the size word at 264 and the scans due at 278; all else is zero up to 282, where the rest begins
abbrev file_of : ℕ → ℕ → ℕ → List ℕ → List ℕ
file_of edition size scans rest = zeros 248 ++ (word edition ++ (zeros 12 ++ (word size ++ (zeros 10 ++ (word scans ++ rest)))))

-- 20,000 bytes
abbrev size_file : ℕ → List ℕ
size_file size = file_of 0 size 0 (zeros 19718)

-- a header of edition 2 and 512 bytes, and a stream behind it
abbrev stream_file : ℕ → ℕ → List ℕ → List ℕ
stream_file kind scans bs = file_of 2 (cond (eqb kind 2) 257 2) scans (zeros 230 ++ bs)

-- ---- what the operations answer

abbrev sizing : Read ℕ → Reply
sizing (got n k) = sized n
sizing (stops z) = refusal (stop_number z)

abbrev giving : Reading State Record → Reply
giving g = gave (map (λ r. to_bits binary64 (unscaled_of r)) g.records) (closing_number g.closing)

abbrev running : List ℕ → Read State → Reply
running F (got st n) = giving (read_up_to rule true 16 st (drop n F))
running F (stops z) = refusal (stop_number z)

abbrev leaving : List ℕ → Reading State Record → Reply
leaving bs g = left (length bs - g.consumed) (giving g)

abbrev running_on : List ℕ → Read State → Reply
running_on F (got st n) = leaving (drop n F) (read_up_to rule true 16 st (drop n F))
running_on F (stops z) = refusal (stop_number z)

abbrev pub answered : Operation → Reply
answered (sizes kind size) = sizing (read true (size_rule kind) (size_file size))
answered (streams kind scans bs) = let F = stream_file kind scans bs in running F (read true (start_rule kind) F)
answered (atlas kind scans bs) = let F = stream_file kind scans bs in running_on F (read true (start_by Atlas kind) F)
answered (atlas_file kind F) = running_on F (read true (start_by Atlas kind) F)

-- ---- the list

-- whole numbers as unscaled intensities, and a closing answer
abbrev values : List ℤ → ℕ → Reply
values zs closing = gave (map (λ z. to_bits binary64 (of_int binary64 z)) zs) closing

pub record Specimen : Type 0 where
  pub does : Operation
  pub answers : Reply

infix 5 ◌gives◌
abbrev ◌gives◌ : Operation → Reply → Specimen
o gives a = record { does = o; answers = a }

-- the head of a DAD scan of length 26: two deltas of two bytes
abbrev dad_deltas : List ℕ
dad_deltas = 67 ∷ 0 ∷ 26 ∷ 0 ∷ (zeros 18 ++ (10 ∷ 0 ∷ 246 ∷ 255 ∷ []))

unfoldable pub specimens : List Specimen
specimens =
    (sizes 1 0 gives refusal 2)
    ∷ (sizes 1 1 gives refusal 3)
    ∷ (sizes 1 2 gives sized 512)
    ∷ (sizes 1 40 gives sized 19968)
    ∷ (sizes 1 41 gives refusal 4)
    ∷ (sizes 2 256 gives refusal 3)
    ∷ (sizes 2 257 gives sized 512)
    ∷ (sizes 2 10001 gives sized 20000)
    ∷ (sizes 2 10002 gives refusal 4)
    -- FID 00 05 00 02 FF FF, then 7F FF 00 00 00 01 00 03 00 04
    ∷ (streams 1 0 (0 ∷ 5 ∷ 0 ∷ 2 ∷ 255 ∷ 255 ∷ 127 ∷ 255 ∷ 0 ∷ 0 ∷ 0 ∷ 1 ∷ 0 ∷ 3 ∷ 0 ∷ 4 ∷ []) gives values (pos 5 ∷ pos 12 ∷ pos 18 ∷ pos 65537 ∷ pos 65541 ∷ []) 0)
    -- MWD 10 02 00 05 80 00 FF FF FF FE 10 01 00 03
    ∷ (streams 3 0 (16 ∷ 2 ∷ 0 ∷ 5 ∷ 128 ∷ 0 ∷ 255 ∷ 255 ∷ 255 ∷ 254 ∷ 16 ∷ 1 ∷ 0 ∷ 3 ∷ []) gives values (pos 5 ∷ negsuc 1 ∷ pos 1 ∷ []) 0)
    -- MS 40 03 and FF FF, in a scan of two points
    ∷ (streams 2 1 (0 ∷ 18 ∷ (zeros 16 ++ (0 ∷ 0 ∷ 64 ∷ 3 ∷ 0 ∷ 0 ∷ 255 ∷ 255 ∷ zeros 10))) gives values (pos 24 ∷ pos 8388096 ∷ []) 0)
    -- MS count 13, and 15: an empty scan
    ∷ (streams 2 1 (0 ∷ 13 ∷ []) gives values [] 11)
    ∷ (streams 2 1 (0 ∷ 15 ∷ zeros 26) gives values [] 0)
    -- DAD, two scans due and one due
    ∷ (streams 4 2 dad_deltas gives values (pos 10 ∷ pos 0 ∷ []) 14)
    ∷ (streams 4 1 dad_deltas gives values (pos 10 ∷ []) 0)
    -- UV 4000, 4040, 20: 3 points
    ∷ (streams 5 1 (zeros 8 ++ (160 ∷ 15 ∷ 200 ∷ 15 ∷ 20 ∷ 0 ∷ (zeros 8 ++ (1 ∷ 0 ∷ 1 ∷ 0 ∷ 1 ∷ 0 ∷ 1 ∷ 0 ∷ [])))) gives values (pos 1 ∷ pos 2 ∷ pos 3 ∷ []) 0)
    ∷ []

-- a UV scan of one wavelength, and its point
abbrev uv_one_wavelength : ℕ → List ℕ
uv_one_wavelength delta = zeros 8 ++ (160 ∷ 15 ∷ 160 ∷ 15 ∷ 1 ∷ 0 ∷ (zeros 8 ++ (delta ∷ 0 ∷ [])))

-- a UV scan of three wavelengths
abbrev uv_three : List ℕ
uv_three = zeros 8 ++ (160 ∷ 15 ∷ 200 ∷ 15 ∷ 20 ∷ 0 ∷ (zeros 8 ++ (1 ∷ 0 ∷ 1 ∷ 0 ∷ 1 ∷ 0 ∷ [])))

-- a DAD scan of a length, and what stands behind its head
abbrev dad_of : ℕ → List ℕ → List ℕ
dad_of size bs = 67 ∷ 0 ∷ size ∷ 0 ∷ (zeros 18 ++ bs)

-- request 5's: 'a DAD run ends after one point of its last scan, and .. UV runs of one wavelength never run out of scans'; and the kinds
unfoldable pub atlas_specimens : List Specimen
atlas_specimens =
    -- DAD, one scan due: its last point too; and nothing is asked for behind it
    (atlas 4 1 dad_deltas gives left 0 (values (pos 10 ∷ pos 0 ∷ []) 0))
    ∷ (atlas 4 2 dad_deltas gives left 0 (values (pos 10 ∷ pos 0 ∷ []) 14))
    ∷ (atlas 4 1 (dad_deltas ++ dad_deltas) gives left 26 (values (pos 10 ∷ pos 0 ∷ []) 0))
    -- the value is cleared at a scan
    ∷ (atlas 4 2 (dad_deltas ++ dad_deltas) gives left 0 (values (pos 10 ∷ pos 0 ∷ pos 10 ∷ pos 0 ∷ []) 0))
    -- UV of one wavelength, two scans due: the third is unread
    ∷ (atlas 5 2 (uv_one_wavelength 7 ++ (uv_one_wavelength 8 ++ uv_one_wavelength 9)) gives left 24 (values (pos 7 ∷ pos 8 ∷ []) 0))
    -- UV of three wavelengths, two scans due: each scan is given whole, the third is unread
    ∷ (atlas 5 2 (uv_three ++ (uv_three ++ uv_three)) gives left 28 (values (pos 1 ∷ pos 2 ∷ pos 3 ∷ pos 1 ∷ pos 2 ∷ pos 3 ∷ []) 0))
    -- DAD, three scans due: the fourth is unread
    ∷ (atlas 4 3 (dad_deltas ++ (dad_deltas ++ (dad_deltas ++ dad_deltas))) gives left 26 (values (pos 10 ∷ pos 0 ∷ pos 10 ∷ pos 0 ∷ pos 10 ∷ pos 0 ∷ []) 0))
    -- another type, of which no more stands there; a scan without points, and its head cut
    ∷ (atlas 4 2 (dad_deltas ++ (68 ∷ 0 ∷ [])) gives left 2 (values (pos 10 ∷ pos 0 ∷ []) 0))
    ∷ (atlas 4 2 (dad_deltas ++ dad_of 22 []) gives left 22 (values (pos 10 ∷ pos 0 ∷ []) 0))
    ∷ (atlas 4 2 (dad_deltas ++ (67 ∷ 0 ∷ 22 ∷ 0 ∷ zeros 17)) gives left 21 (values (pos 10 ∷ pos 0 ∷ []) 14))
    -- the last scan cut
    ∷ (atlas 4 1 (dad_of 26 (10 ∷ 0 ∷ [])) gives left 0 (values (pos 10 ∷ []) 14))
    -- one byte due takes a whole delta; an escape runs past the length
    ∷ (atlas 4 1 (dad_of 25 (10 ∷ 0 ∷ 246 ∷ 255 ∷ 9 ∷ [])) gives left 1 (values (pos 10 ∷ pos 0 ∷ []) 0))
    ∷ (atlas 4 1 (dad_of 24 (0 ∷ 128 ∷ 7 ∷ 0 ∷ 0 ∷ 0 ∷ 9 ∷ [])) gives left 1 (values (pos 7 ∷ []) 0))
    -- of no bytes: 1 and 18 before any is due
    ∷ (atlas_file 0 [] gives refusal 1)
    ∷ (atlas_file 7 [] gives refusal 1)
    ∷ (atlas_file 1 [] gives refusal 18)
    ∷ (atlas_file 6 [] gives refusal 18)
    ∷ (atlas_file 4 [] gives refusal 14)
    -- the kinds: 1 before 18, both before any byte
    ∷ (atlas 1 0 [] gives refusal 18)
    ∷ (atlas 2 0 [] gives refusal 18)
    ∷ (atlas 3 0 [] gives refusal 18)
    ∷ (atlas 6 0 [] gives refusal 18)
    ∷ (atlas 0 0 [] gives refusal 1)
    ∷ (atlas 7 0 [] gives refusal 1)
    ∷ []

abbrev pub AllGive : List Specimen → Type 0
AllGive ss = map (λ s. answered s.does) ss ≡ map (λ s. s.answers) ss
