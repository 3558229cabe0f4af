-- The answer to what a line gives. Answers by a table are answers by the list that it was made of.
use Rattle.origins_lines.proofs.Common.{arith, Bool, List, Option, [], append-nil, inl, inr, ℕ, ◌∷◌, ◌≡◌}
use Rattle.origins_lines.proofs.Common.{Result}
use Rattle.origins_lines.proofs.Common.{HasAnswered, IsStreamRun, Form, Vrp}
use Rattle.origins_lines.proofs.Common.{AskedRoute, BegunRoute, IsAnswerIn, IsBegun, IsFaultAnswer, IsRouteAnswer}
use Rattle.std.specs.List.{AllZip}
use Rattle.std.specs.List.Sorted.{IsPermutation}
use Rattle.std.proofs.lemmas.List.Sorted.{IsPermutation-sym}
use Rattle.json.specs.Print.{print, print_from, quoted}
use Rattle.json.specs.Token.{string}
use Rattle.lines_engine.specs.declared.error.RunError.{RunError}
use Rattle.roa_routes.specs.declared.fault.RouteFault.{RouteFault}
use Rattle.origins_lines.specs.declared.begun.BegunRoute.TheVariants.{Asked, Wrong}
use Rattle.origins_lines.proofs.OrderLemmas.{any_order}

-- a writer of JSON prints one string as the string between quotes
pub printed_string : (said : List ℕ) → print (string said ∷ []) ≡ quoted said
unfolding print_from
printed_string said = append-nil (quoted said)

module _ (form : Form) (why : Bool) (vrps : List Vrp) (line text : List ℕ) (begun : BegunRoute)
    (known : IsBegun vrps begun line) where
  -- the answer to the route that a line gives is an answer to the line
  pub asked_answered : (asked : AskedRoute) → begun ≡ Asked asked
      → IsRouteAnswer form why asked.lookup.vrps asked.route text → IsAnswerIn form why vrps line text
  asked_answered asked is texts =
      let (route, one, same) = rw is at known in
      inl (asked.route, route, rw same at texts)

  -- and so is the answer to its fault
  pub wrong_answered : (fault : RouteFault) → begun ≡ Wrong fault → IsFaultAnswer form fault line text
      → IsAnswerIn form why vrps line text
  wrong_answered fault is texts = inr (inr (fault, rw is at known, texts))

-- each answer of one sort is an answer of another
module _ (One Other : List ℕ → List ℕ → Type 0)
    (turned : (line text : List ℕ) → One line text → Other line text) where
  each_turned : (lines texts : List (List ℕ)) → AllZip One lines texts → AllZip Other lines texts
  each_turned [] [] each = tt
  each_turned (line ∷ lines) (text ∷ texts) each = (turned line text each.0, each_turned lines texts each.1)
  each_turned lines texts each = absurd each

  pub answered_turned : (old new : Option (List ℕ)) (lines rest : List (List ℕ)) (unwritten : List ℕ)
      → HasAnswered One old new lines rest unwritten → HasAnswered Other old new lines rest unwritten
  answered_turned old new lines rest unwritten had = grind (arith, each_turned)

  pub run_turned : {R W : Type 0} (read_mark : R → Bool) (left : R → Option (List ℕ)) (mark : W → Bool)
      (written : W → Option (List ℕ)) (is_flushed : W → Bool) (reader reader' : R) (writer writer' : W)
      (r : Result (Unit {0}) RunError)
      → IsStreamRun read_mark left mark written is_flushed One reader reader' writer writer' r
      → IsStreamRun read_mark left mark written is_flushed Other reader reader' writer writer' r
  run_turned read_mark left mark written is_flushed reader reader' writer writer' r run =
      grind (arith, answered_turned)

-- a table has the VRPs of a list in another order: an answer by the table is one by the list
pub by_list : (form : Form) (why : Bool) (listed table : List Vrp) → IsPermutation listed table
    → (line text : List ℕ) → IsAnswerIn form why table line text → IsAnswerIn form why listed line text
by_list form why listed table moved line text is =
    any_order form why table listed line text (IsPermutation-sym listed table moved) is
