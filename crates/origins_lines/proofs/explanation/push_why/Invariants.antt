-- The VRPs so far are explained after the text.
use Rattle.origins_lines.proofs.Common.{List, ℕ, ◌++◌, ◌≡◌, asked_asn, string_bytes}
use Rattle.origins_lines.proofs.WhyLemmas.{IsExplainedSo}
use Rattle.origins_lines.proofs.explanation.push_why.Given as goal

abbrev pub invariant-loop-vrp : goal.invariant-loop-vrp
invariant-loop-vrp g l =
    (why : List ℕ) × IsExplainedSo l.form l.asked.route.prefix (asked_asn l.asked.route.origin) l.yielded l.last why
    × (string_bytes l.text ≡ string_bytes l.fn.text ++ why)
