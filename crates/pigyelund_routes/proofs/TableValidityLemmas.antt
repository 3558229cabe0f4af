-- The validities by a table are those by the list that it was made of.
use Rattle.pigyelund_routes.proofs.Common.{List, [], refl, ℕ, IsOrigin, Route}
use Rattle.std.proofs.Common.{inl, inr}
use Rattle.std.specs.List.Sorted.{IsPermutation}
use Rattle.roa_origin.proofs.Common.{IsPermutation-sym}
use Rattle.roa_origin.proofs.ValidityScans.{same_validity}
use Rattle.roa_origin.specs.Vrps.{Vrp}
use Rattle.pigyelund_routes.specs.Validities.{AreRoutesValidated}
use Rattle.pigyelund_routes.proofs.ValidityArrayLemmas.{all_too}

module _ (vrps table : List Vrp) (permuted : IsPermutation vrps table) where
  by_list : (r : Route) (octet : ℕ) → IsOrigin table r octet → IsOrigin vrps r octet
  by_list r octet written = record {
    prefix = written.prefix;
    is_route = written.is_route;
    validity = written.validity;
    is_validity =
        same_validity written.prefix _ _ vrps written.validity (IsPermutation-sym _ _ permuted)
        written.is_validity;
    number = written.number;
  }

  -- without a buffer for reasons
  pub validated_by : (routes : List Route) (before after why_after : List ℕ) (len index result : ℕ)
      → AreRoutesValidated table routes before after [] why_after len index result
      → AreRoutesValidated vrps routes before after [] [] len index result
  validated_by routes before after why_after len index result (inl (valid, inl (ok, (put, reasons)), many, none)) =
      let (octets, each, front) = put in
      let each_of = all_too (IsOrigin table) (IsOrigin vrps) by_list routes octets each in
      inl (valid, inl (ok, ((octets, each_of, front), inl (refl, refl))), many, none)
  validated_by routes before after why_after len index result
      (inl (valid, inr (small, few, same, nothing), many, none)) =
      inl (valid, inr (small, few, same, refl), many, none)
  validated_by routes before after why_after len index result (inr (first, is, (same, nothing), status, none, here)) =
      inr (first, is, (same, refl), status, none, here)
