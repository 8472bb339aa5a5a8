-- Document 01's listing, and small ones, each by one computation. Assumes nothing.
use Prim.Native.Nat.{◌-◌, ◌^◌}
use mathlib.Core.Path.{◌≡◌, refl}
use mathlib.Core.List.{[], ◌∷◌, ◌++◌}
use lib.ListN.{replicate}
use Rattle.wide.specs.Fields.{be_at}
use Rattle.listing.specs.Listing.{
  ascii,
  places_of,
  decimal_text,
  bytes_text,
  value_text,
  answer_line,
  lines_on,
  end_line,
  listing_of,
}

-- document 01's example: its answers, with 3 calls done, refusal 2 and 19 list bytes used. S-4: 'document 01's listing
-- gains 128 zeros on its second line'; 48 is the code of '0'
pub example_listed :
    listing_of
    (0x02 ∷ 0x00 ∷ 0x01 ∷ 0x01 ∷ 0x04 ∷ 0x00 ∷ 0x41 ∷ replicate 65 0 ++ 0x0A ∷ 0x00 ∷ 0x02 ∷ 0x00 ∷ 0x00 ∷ []) 3 2 19
    ≡ ascii "02 01\n04 00" ++ replicate 128 48 ++ ascii "\n0a 0000\nend 3 2 19\n"
unfolding ascii places_of decimal_text bytes_text value_text answer_line be_at lines_on end_line listing_of
example_listed = refl

-- an empty value prints `-`; digits are lower-case; bytes that are no whole answer are not listed
pub empty_value_listed :
    listing_of (0x01 ∷ 0x00 ∷ 0x00 ∷ 0xFE ∷ 0x00 ∷ 0x00 ∷ 0x02 ∷ 0x00 ∷ 0x01 ∷ []) 2 11 65535
    ≡ ascii "01 -\nfe -\nend 2 11 65535\n"
unfolding ascii places_of decimal_text bytes_text value_text answer_line be_at lines_on end_line listing_of
empty_value_listed = refl

-- no answers print the last line alone; zero prints `0`
pub no_answers_listed : listing_of [] 0 0 0 ≡ ascii "end 0 0 0\n"
unfolding ascii places_of decimal_text lines_on end_line listing_of
no_answers_listed = refl

-- numbers of one digit and more
pub numbers_listed :
    listing_of [] 9 10 (2 ^ 64 - 1) ≡ ascii "end 9 10 18446744073709551615\n"
unfolding ascii places_of decimal_text lines_on end_line listing_of
numbers_listed = refl

-- a text is codes of ASCII characters
pub codes : ascii "09af -\nend" ≡ 48 ∷ 57 ∷ 97 ∷ 102 ∷ 32 ∷ 45 ∷ 10 ∷ 101 ∷ 110 ∷ 100 ∷ []
unfolding ascii
codes = refl
