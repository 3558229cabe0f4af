-- What the records of runs say, one clause of a call each: a record of a call says no less than these clauses.
use Rattle.std.specs.Prelude.{◌≡◌, ◌⊎◌, ℕ, Bool, true, List, [], Option, IsErrOf, OnOk, Result, Ok, Err}
use Rattle.std.proofs.Common.{inl, inr}
use Rattle.lines_engine.specs.Run.{HasWritten}
use Rattle.lines_engine.specs.declared.error.RunError.{RunError}
use Rattle.lines_engine.specs.declared.error.RunError.TheVariants.{Read, Write, Memory}
use Rattle.origins_lines.specs.Runs.{IsFlushed}

-- a text is written and flushed
module _ {W : Type 0} (mark : W → Bool) (written : W → Option (List ℕ)) (is_flushed : W → Bool)
    (Is : List ℕ → Type 0) (w v : W) where
  abbrev Writes : List ℕ → Type 0
  Writes unwritten = (text : List ℕ) × Is text × HasWritten (written w) (written v) text unwritten

  unmarked : (r : Result (Unit {0}) RunError) → IsFlushed mark written is_flushed Is w v r → OnOk r (mark v ≡ mark w)
  unmarked (Ok x) run = run.text.marked
  unmarked (Err e) run = tt

  whole : (r : Result (Unit {0}) RunError) → IsFlushed mark written is_flushed Is w v r → OnOk r (Writes [])
  whole (Err e) run = tt
  whole (Ok x) run = elim run.text.wrote [
    | inl (none, same) ↦ cc
    | inr (text, is, unwritten, wrote, all) ↦ (text, is, rw all at wrote)
  ]

  module _ (r : Result (Unit {0}) RunError) (run : IsFlushed mark written is_flushed Is w v r) where
    memory_unmarked : IsErrOf r Memory → mark v ≡ mark w
    memory_unmarked is = rw is at run.text.marked

    some_if_memory : IsErrOf r Memory → (v ≡ w) ⊎ ((unwritten : List ℕ) × Writes unwritten)
    some_if_memory is = elim run.text.wrote [
      | inl (none, same) ↦ inl same
      | inr (text, that, unwritten, wrote, all) ↦ inr (unwritten, (text, that, wrote))
    ]

    write : IsErrOf r Write → mark v ≡ true
    write is = rw is at run.text.marked

    some_written : IsErrOf r Write → (unwritten : List ℕ) × Writes unwritten
    some_written is = elim run.text.wrote [
      | inl (none, same) ↦ cc
      | inr (text, that, unwritten, wrote, all) ↦ (unwritten, (text, that, wrote))
    ]

    not_read : IsErrOf r Read → ⊥
    not_read is = rw is at run.text.marked
