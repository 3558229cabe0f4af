-- Steps on groups of lines.
use Rattle.lines_engine.proofs.Common.{List, Option, [], ap, arith, drop, get_or, length, length-append}
use Rattle.lines_engine.proofs.Common.{common_steps, suc, sym, take, ℕ, ◌++◌, ◌+◌, ◌<◌, ◌∷◌, ◌≡◌}
use Rattle.lines_engine.proofs.Common.{add-one, IsCutAt, Result, lines_of, AreAnswered, HasAnswered}
use Rattle.lines_engine.proofs.Common.{group_lines, RunError}
use Rattle.std.proofs.Math.Seq.{drop-cons, map-set_same}
use Rattle.std.proofs.lemmas.List.{append_assoc, map-append}
use Rattle.std.proofs.lemmas.List.Elements.{All-set}
use Rattle.lines_engine.specs.declared.group.BegunLine.{BegunLine}
use Rattle.lines_engine.proofs.RunLemmas.{before_are, then_are}
use Rattle.lines_engine.proofs.StreamLemmas.{lines-joined}

-- an element of a list is set
pub ruleset element_set = (All-set, map-set_same)

-- what is after the end of a line is shorter
pub cut_shorter : (piece line behind : List ℕ) → IsCutAt 10 piece line behind → length behind < length piece
cut_shorter piece line behind cut = omega (arith, ap length cut.split, length-append line (10 ∷ behind))

-- a list that is all of the front of another one
pub front_taken : {X : Type 0} (seen front tail : List X) (n : ℕ) → seen ≡ take n (front ++ tail) → length front ≡ n
    → seen ≡ front
front_taken seen front tail n is len = grind (arith, common_steps)

module _ {B : Type 0} where
  -- a line after a group
  group_lines-push : (group : List (BegunLine B)) (asked : BegunLine B) (others : List (List ℕ))
      → group_lines (group ++ asked ∷ []) ++ others ≡ group_lines group ++ (asked.line.now ∷ others)
  group_lines-push group asked others = grind (arith, append_assoc, map-append)

  -- the lines from one on are that line and the others
  group_lines-drop : (group : List (BegunLine B)) (i : ℕ) (asked : BegunLine B) → i < length group
      → asked ≡ get_or group i asked
      → group_lines (drop i group) ≡ asked.line.now ∷ group_lines (drop (i + 1) group)
  group_lines-drop group i asked less is =
      rw (add-one, drop-cons group i asked)
      (ap (λ (x : BegunLine B). x.line.now ∷ group_lines (drop (suc i) group)) (sym is))

  -- one more line was cut off, and its answer begun
  pub lines_begun : (text rest line behind more : List ℕ) (group others : List (BegunLine B)) (asked : BegunLine B)
      → IsCutAt 10 rest line behind → asked.line.now ≡ line → others ≡ group ++ asked ∷ []
      → lines_of (text ++ more) ≡ group_lines group ++ lines_of (rest ++ more)
      → lines_of (text ++ more) ≡ group_lines others ++ lines_of (behind ++ more)
  lines_begun text rest line behind more group others asked cut is are had =
      let joined : lines_of (rest ++ more) ≡ line ∷ lines_of (behind ++ more) =
      lines-joined [] rest line behind more (λ k small. absurd (omega (arith, small))) cut in
      rw (are, group_lines-push group asked (lines_of (behind ++ more)), is, ← joined) had

module _ (Is : List ℕ → List ℕ → Type 0) where
  -- a line of a group is answered
  pub group_more : {B : Type 0} (a b c : Option (List ℕ)) (lines : List (List ℕ)) (group : List (BegunLine B)) (i : ℕ)
      (asked : BegunLine B) (r : Result (Unit {0}) RunError) → i < length group → asked ≡ get_or group i asked
      → HasAnswered Is a b lines (group_lines (drop i group)) []
      → ((rest : List (List ℕ)) → AreAnswered Is b c (asked.line.now ∷ rest) rest r)
      → AreAnswered Is a c lines (group_lines (drop (i + 1) group)) r
  group_more a b c lines group i asked r less is had one =
      then_are Is a b c lines _ _ r (rw (group_lines-drop group i asked less is) at had) (one _)

  -- lines are answered up to a group, and then the lines of the group
  pub group_are : (a b c : Option (List ℕ)) (lines group others all : List (List ℕ)) (r : Result (Unit {0}) RunError)
      → all ≡ group ++ others → HasAnswered Is a b lines all [] → AreAnswered Is b c group [] r
      → AreAnswered Is a c lines others r
  group_are a b c lines group others all r are had each =
      then_are Is a b c lines all others r had (rw are (before_are Is b c group [] others r each))
