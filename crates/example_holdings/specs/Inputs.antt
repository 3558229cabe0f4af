-- The input of the program: two lines of three lists each.
use Rattle.std.specs.Prelude.{◌≡◌, ◌≢◌, ℕ, List, [], ◌∷◌, ◌==◌, length}
use Rattle.std.specs.List.{slice_split}
use Rattle.std.specs.Str.Lines.{lines}
use Rattle.example_holdings.specs.declared.input.Lists.{Lists}
use Rattle.example_holdings.specs.declared.input.Input.{Input}
use Rattle.example_holdings.specs.declared.input.InputError.{InputError}
use Rattle.example_holdings.specs.declared.input.InputError.TheVariants.{Lines, Had, Gets}

-- the byte of a semicolon
abbrev pub semicolon : ℕ
semicolon = 59

-- the lists of a line: its parts, which semicolons separate
abbrev pub lists_of : List ℕ → List (List ℕ)
lists_of line = slice_split (λ b. b == semicolon) line

-- the line is these three lists
abbrev pub AreLists : List ℕ → Lists → Type 0
AreLists line lists = lists_of line ≡ lists.asn.now ∷ lists.ipv4.now ∷ lists.ipv6.now ∷ []

-- the line has this number of lists, and the number isn't 3
abbrev pub HasOtherCount : List ℕ → ℕ → Type 0
HasOtherCount line count = (length (lists_of line) ≡ count) × (count ≢ 3)

-- the text has two lines, and P holds for them
pub record OfTwoLines (text : List ℕ) (P : List ℕ → List ℕ → Type 0) : Type 0 where
  pub first : List ℕ
  pub second : List ℕ
  pub two : lines text ≡ first ∷ second ∷ []
  pub holds : P first second

-- the text has two lines of three lists each, which are those of the input
abbrev pub IsInput : List ℕ → Input → Type 0
IsInput text input = OfTwoLines text (λ first second. AreLists first input.had × AreLists second input.gets)

-- the first fault of the text
abbrev pub HasInputFault : List ℕ → InputError → Type 0
HasInputFault text (Lines count) = (length (lines text) ≡ count) × (count ≢ 2)
HasInputFault text (Had count) = OfTwoLines text (λ first second. HasOtherCount first count)
HasInputFault text (Gets count) =
    OfTwoLines text (λ first second. (length (lists_of first) ≡ 3) × HasOtherCount second count)
