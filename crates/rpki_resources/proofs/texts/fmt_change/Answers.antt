use Rattle.rpki_resources.proofs.Common.{List, ap₂, codes, refl, ℕ, ◌++◌, as_list_text, ipv4_list_text, ipv6_list_text}
use Rattle.std.proofs.Output.{has_written_append, has_written_of_eq}
use Rattle.rpki_resources.proofs.PrintLemmas.{kind_is}
use Rattle.rpki_resources.proofs.texts.fmt_change.Goals as goal

pub returns : goal.returns
returns g c = rw (← c.set.view_is) (λ plain ok.
    let word = c.in_ok-write_str.ensures.writes plain refl in
    let asn = c.in_ok-fmt_kind.ensures (as_list_text c.set.inside.asn) refl word.plain refl in
    let ipv4 = c.in_ok-fmt_kind-2.ensures (ipv4_list_text c.set.inside.ipv4) refl asn.plain refl in
    let ipv6 = c.fmt_kind-3.ensures (ipv6_list_text c.set.inside.ipv6) refl ipv4.plain ok in
    let of_asn = kind_is (codes " asn: ") as_list_text _ c.set.inside.asn c.is_empty.ensures in
    let of_ipv4 = kind_is (codes " ipv4: ") ipv4_list_text _ c.set.inside.ipv4 c.is_empty-2.ensures in
    let of_ipv6 = kind_is (codes " ipv6: ") ipv6_list_text _ c.set.inside.ipv6 c.is_empty-3.ensures in
    let both = ap₂ (λ (s t : List ℕ). c.args.word.now ++ s ++ t) of_asn of_ipv4 in
    has_written_of_eq _ _ _ _ _ (ap₂ (λ (s t : List ℕ). s ++ t) both of_ipv6)
    (has_written_append _ _ _ _ _ _ (has_written_append _ _ _ _ _ _
    (has_written_append _ _ _ _ _ _ word asn) ipv4) ipv6))
