-- Texts that begin with the text of an address.
use Rattle.std.specs.Prelude.{◌≡◌, ◌≢◌, ℕ, ◌≤◌, List, ◌++◌, slice_index}
use Rattle.std.specs.Char.{digit_value}

-- the text begins with a text that writes the value, and rest follows it
pub record IsAtFront {A : Type 0} (Writes : List ℕ → A → Type 0) (text : List ℕ) (value : A) (rest : List ℕ)
    : Type 0 where
  pub front : List ℕ
  pub split : text ≡ front ++ rest
  pub writes : Writes front value

-- the rest does not begin with a decimal digit
abbrev pub EndsIpv4 : List ℕ → Type 0
EndsIpv4 rest = 10 ≤ digit_value (slice_index rest 0)

-- the rest does not begin with a hexadecimal digit, a dot (46) or a colon (58)
pub record EndsIpv6 (rest : List ℕ) : Type 0 where
  pub no_digit : 16 ≤ digit_value (slice_index rest 0)
  pub no_dot : slice_index rest 0 ≢ 46
  pub no_colon : slice_index rest 0 ≢ 58
