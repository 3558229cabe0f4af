use Rattle.respath_lines.proofs.Common.{◌≡◌, string_bytes, cover_text}
use Rattle.respath_lines.proofs.cover.print_prefixes.Given as goal

-- the text is that of the prefixes so far
abbrev pub invariant-loop-prefix : goal.invariant-loop-prefix
invariant-loop-prefix g l = (goal.iterator-loop-prefix g).can_next l.prefix-iterator
    × (goal.iterator-loop-prefix g).is_finite l.prefix-iterator
    × (string_bytes l.answer ≡ cover_text l.family l.yielded)
