-- The family asked is the prefix's.
use Rattle.std.proofs.Common.{◌≡◌, ◌↔◌, ℕ, IsTrue, true, false, not, subst, sym, ◌∙◌, arith}
use Rattle.rpki_chain_core.specs.Sets.{IsWithin}
use Rattle.rpki_chain.specs.Runs.{Holds}
use Rattle.rpki_resources.specs.Triples.{set_of_family}
use Rattle.rpki_addr.specs.declared.addr.IpAddr.{IpAddr}
use Rattle.rpki_ip.specs.AddrText.{family_of}
use Rattle.rpki_der.specs.declared.family.AddressFamily.TheVariants.{Ipv4, Ipv6}
use Rattle.rpki_prefix.specs.Values.{is_v6}
use Rattle.roa_check.proofs.roa_prefixes.is_inside.Goals as goal
use Rattle.roa_check.proofs.roa_prefixes.is_inside.Goals.{then-is_v4, else-is_v4}

of_v4 : (a : IpAddr) → not (is_v6 a) ≡ true → Ipv4 ≡ family_of a
of_v4 a e = grind arith

of_v6 : (a : IpAddr) → not (is_v6 a) ≡ false → Ipv6 ≡ family_of a
of_v6 a e = grind arith

pub returns : goal.returns
returns g c =
    let addr = c.args.prefix.addr in
    let family : c.if-is_v4.family ≡ family_of addr = elim c.if-is_v4.branch [
      | then-is_v4 w ↦ w.family-is ∙ of_v4 addr (sym c.is_v4.ensures ∙ w.if-is_v4.true)
      | else-is_v4 w ↦ w.family-is ∙ of_v6 addr (sym c.is_v4.ensures ∙ w.if-is_v4.false)
    ] in
    let inside = λ (b : ℕ × ℕ) (n : ℕ). IsWithin b n → Holds (set_of_family (family_of addr) c.args.set.now) n in
    subst (λ b. IsTrue c.contains_roa_address.result ↔ ((n : ℕ) → inside b n)) c.addresses.ensures
    (rw family at c.contains_roa_address.ensures)
