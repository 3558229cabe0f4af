-- The progress of a reader of groups.
use Rattle.std.specs.Prelude.{◌≡◌, ◌≢◌, ℕ, ◌+◌, ◌-◌, ◌^◌, ◌<◌, ◌≤◌, ◌==◌, Bool, true, false, Some, List, length, drop}
use Rattle.std.specs.Prelude.{get_or, if◌then◌else◌}
use Rattle.std.specs.Borrow.{Bor}
use Rattle.std.specs.Char.{digit_value}
use Rattle.std.specs.Net.Reader.{Segments, after, read_segment, read_segments}
use Rattle.rpki_text.specs.Digits.{from_groups}
use Rattle.rpki_addr.specs.declared.addr.read.Groups.{Groups}

-- the parts of groups that were read: their number, their count, whether they end in an IPv4 text, and the text after
-- them
abbrev pub parts : Groups → ℕ × ℕ × Bool × List ℕ
parts groups = (groups.bits, groups.count, groups.closed, groups.rest.now)

-- all groups that a reader of at most n groups finds, if it has read these groups so far
abbrev pub found_with : ℕ → List ℕ → Groups → Segments
found_with n front groups =
    if groups.closed then (front, true, groups.rest.now)
    else after front (read_segments (n - groups.count) (groups.count == 0) groups.rest.now)

-- the groups are the first ones of those that a reader of at most n groups finds in the text
pub record IsSoFar (n : ℕ) (text : List ℕ) (groups : Groups) : Type 0 where
  pub front : List ℕ
  pub read : read_segments n true text ≡ found_with n front groups
  pub count : length front ≡ groups.count
  pub value : from_groups front ≡ groups.bits
  pub small : groups.bits < 0x10000 ^ groups.count
  pub within : groups.count ≤ n

-- neither a hexadecimal digit nor a dot (46) is at the index
pub record EndsGroupAt (text : List ℕ) (at : ℕ) : Type 0 where
  pub no_digit : 16 ≤ digit_value (get_or text at 0)
  pub no_dot : get_or text at 0 ≢ 46

-- From the index `at` on, one to four hexadecimal digits before the index `end` write the value. They are a group if no
-- digit follows them.
pub record IsGroupAt (text : List ℕ) (at value end : ℕ) : Type 0 where
  pub some : at < end
  pub few : end ≤ at + 4
  pub small : value < 0x10000
  pub read : 16 ≤ digit_value (get_or text end 0) → read_segment (drop at text) ≡ Some (value, drop end text)

-- groups that end at an index of the text, none of them an IPv4 address
abbrev pub groups_at : List ℕ → ℕ → ℕ → ℕ → Groups
groups_at text bits count end =
    let rest : Bor (List ℕ) = record { ref_ptr = (0, 0); now = drop end text } in
    record { bits = bits; count = count; closed = false; rest = rest }

-- the groups before an index are the first ones of those that a reader of at most n groups finds in the text
abbrev pub IsSoFarAt : ℕ → List ℕ → ℕ → ℕ → ℕ → Type 0
IsSoFarAt n text bits count end = IsSoFar n text (groups_at text bits count end)
