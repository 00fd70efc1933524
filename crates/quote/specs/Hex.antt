-- Tables as text: one to four hexadecimal digits, with or without 0x before them.
use Rattle.std.specs.Prelude.{ℕ, ◌+◌, ◌-◌, ◌*◌, Bool, true, false, cond, List, [], ◌∷◌, length, drop, is_some, Some, None, Ok, Err, Option, Result, ◌==◌, nat_le, nat_lt, slice_index}
use Rattle.std.specs.Option.{unwrap_or}
use Rattle.quote.specs.declared.parse.ParseFault.{ParseFault}
use Rattle.quote.specs.declared.parse.ParseFault.TheVariants.{NoDigits, TooLong, NotHex}

-- whether b lies from l to h
abbrev pub within : ℕ → ℕ → ℕ → Bool
within l h b = cond (nat_le l b) (nat_le b h) false

-- what a digit is worth: 0 to 9, A to F and a to f
abbrev pub digit_of : ℕ → Option ℕ
digit_of b = cond (within 48 57 b) (Some (b - 48)) (cond (within 65 70 b) (Some (b - 65 + 10)) (cond (within 97 102 b) (Some (b - 97 + 10)) None))

-- whether each byte is a digit
abbrev pub all_digits : List ℕ → Bool
all_digits [] = true
all_digits (b ∷ bs) = cond (is_some (digit_of b)) (all_digits bs) false

-- what the digits are worth after others worth v
abbrev pub worth : ℕ → List ℕ → ℕ
worth v [] = v
worth v (b ∷ bs) = worth (16 * v + unwrap_or (digit_of b) 0) bs

-- the number that digits write, or the first fault of theirs
abbrev pub number_of : List ℕ → Result ℕ ParseFault
number_of bs = cond (length bs == 0) (Err NoDigits) (cond (nat_lt 4 (length bs)) (Err TooLong) (cond (all_digits bs) (Ok (worth 0 bs)) (Err NotHex)))

-- whether a text begins with 0x or 0X
abbrev pub prefixed : List ℕ → Bool
prefixed bs = cond (nat_le 2 (length bs)) (cond (slice_index bs 0 == 48) (cond (slice_index bs 1 == 120) true (slice_index bs 1 == 88)) false) false

-- the table that a text writes: the number behind the prefix, if there is one
abbrev pub table_of : List ℕ → Result ℕ ParseFault
table_of bs = number_of (cond (prefixed bs) (drop 2 bs) bs)
