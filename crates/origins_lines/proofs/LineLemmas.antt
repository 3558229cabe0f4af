-- How calls that write texts end, one after the other.
use Rattle.origins_lines.proofs.Common.{[], append-nil, arith, Bool, Err, inl, inr, IfErr, List, Ok, OnOk, Option, refl}
use Rattle.origins_lines.proofs.Common.{subst}
use Rattle.origins_lines.proofs.Common.{None, Result, Vrp, vrp_lines, ℕ, ◌++◌, ◌∙◌, ◌≡◌}
use Rattle.origins_lines.proofs.Common.{HasWritten, IsFlushed, IsWritten}
use Rattle.std.specs.Io.KnownBytes.{Keeps}
use Rattle.std.specs.Prelude.{codes, true}
use Rattle.lines_engine.specs.Run.{MarksWriter}
use Rattle.lines_engine.specs.declared.error.RunError.{RunError}
use Rattle.lines_engine.specs.declared.error.RunError.TheVariants.{Memory, Write}
use Rattle.lines_engine.proofs.RunLemmas.{written_first, written_kept, written_none, written_then}
use Rattle.roa_origin.specs.Tables.{IsTableOf, IsWithout}
use Rattle.origins_lines.specs.Runs.{IsChangesText}

module _ {W : Type 0} (mark : W → Bool) (written : W → Option (List ℕ)) where
  -- memory ran out before a text was made
  pub unmade : (Is : List ℕ → Type 0) (w : W) (r : Result (Unit {0}) RunError) → r ≡ Err Memory
      → IsWritten mark written Is w w r
  unmade Is w r is = rw is (record { marked = refl; wrote = inl (refl, refl) })

  -- there was nothing to write
  pub none_written : (w : W) → IsWritten mark written (λ text. text ≡ []) w w (Ok tt)
  none_written w = record { marked = refl; wrote = inr ([], refl, [], written_none _ _, refl) }

  -- the text that is written is also one of another sort
  pub written_as : {Is Other : List ℕ → Type 0} → ((text : List ℕ) → Is text → Other text) → (w v : W)
      (r : Result (Unit {0}) RunError) → IsWritten mark written Is w v r → IsWritten mark written Other w v r
  written_as each w v r had = grind (arith, each)

  -- all of a text but the rest was written, and then the front of the rest, or a beginning of it
  module _ (all front rest : List ℕ) (w v u : W) (had : HasWritten (written w) (written v) all (front ++ rest))
      (same : mark v ≡ mark w) where
    pub front_written : IsWritten mark written (λ text. text ≡ front) v u (Ok tt)
        → HasWritten (written w) (written u) all rest
    front_written more = elim more.wrote [
      | inl (none, untouched) ↦ cc
      | inr (text, is, unwritten, wrote, whole) ↦ written_then _ _ _ all front rest [] had (rw (is, whole) at wrote)
    ]

    pub front_failed : (e : RunError) → IsWritten mark written (λ text. text ≡ front) v u (Err e)
        → IsWritten mark written (λ text. text ≡ all) w u (Err e)
    front_failed e more = record {
      marked = subst (λ old. MarksWriter old (mark u) (Err e)) same more.marked;
      wrote = elim more.wrote [
        | inl (none, untouched) ↦ inr (all, refl, front ++ rest, rw untouched had, tt)
        | inr (text, is, unwritten, wrote, whole) ↦
            inr (all, refl, unwritten ++ rest, written_then _ _ _ all front rest unwritten had (rw is at wrote), tt)
      ];
    }

  -- the first of two texts was not written whole
  pub first_failed : (first second : List ℕ) (w v : W) (e : RunError)
      → IsWritten mark written (λ text. text ≡ first) w v (Err e)
      → IsWritten mark written (λ text. text ≡ first ++ second) w v (Err e)
  first_failed first second w v e one = front_failed (first ++ second) first second w w v (written_none _ _) refl e one

  -- two texts are written, one after the other
  module _ (first second : List ℕ) (w v : W) (one : IsWritten mark written (λ text. text ≡ first) w v (Ok tt)) where
    second_left : HasWritten (written w) (written v) (first ++ second) (second ++ [])
    second_left = elim one.wrote [
      | inl (none, untouched) ↦ cc
      | inr (text, is, unwritten, wrote, whole) ↦
          rw (append-nil second) (written_first _ _ first second [] (rw (is, whole) at wrote))
    ]

    pub both_written : (u : W) (r : Result (Unit {0}) RunError)
        → IsWritten mark written (λ text. text ≡ second) v u r
        → IsWritten mark written (λ text. text ≡ first ++ second) w u r
    both_written u (Ok x) other = record {
      marked = other.marked ∙ one.marked;
      wrote =
          inr (
            first ++ second,
            refl,
            [],
            front_written (first ++ second) second [] w v u second_left one.marked other,
            refl,
          );
    }
    both_written u (Err e) other = front_failed (first ++ second) second [] w v u second_left one.marked e other

  -- a text was written, and then the writer was flushed
  pub text_flushed : (is_flushed : W → Bool) (Is : List ℕ → Type 0) (w v u : W) (r : Result (Unit {0}) RunError)
      → IsWritten mark written Is w v (Ok tt) → OnOk r (mark u ≡ mark v) → OnOk r (is_flushed u ≡ true)
      → IfErr r (λ e. (e ≡ Write) × (mark u ≡ true)) → Keeps (written v) (written u)
      → IsFlushed mark written is_flushed Is w u r
  text_flushed is_flushed Is w v u r had same flushed failed kept = grind (arith, written_kept)

-- the text has the changes between the tables of two lists
pub changes_text : {before after old_table new_table withdrawn announced : List Vrp} → IsTableOf before old_table
    → IsTableOf after new_table → IsWithout old_table new_table withdrawn → IsWithout new_table old_table announced
    → (text : List ℕ)
    → text ≡ vrp_lines None (codes "withdraw ") withdrawn ++ vrp_lines None (codes "announce ") announced
    → IsChangesText before after text
changes_text old new was is text whole =
    record {
      old_table = _;
      new_table = _;
      withdrawn = _;
      announced = _;
      old_is = old;
      new_is = new;
      withdrawn_are = was;
      announced_are = is;
      text_is = whole;
    }
