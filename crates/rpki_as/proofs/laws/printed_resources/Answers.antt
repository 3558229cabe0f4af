-- A text writes one claim at most, and what is printed writes its own.
use Rattle.rpki_as.proofs.Common.{ap, refl, as_resources_text}
use Rattle.rpki_as.proofs.AsResourcesTexts.{one_claim, printed_resources}
use Rattle.rpki_as.proofs.laws.printed_resources.Goals as goal

pub returns : goal.returns
returns c = record {
  written = λ claim is. printed_resources (as_resources_text claim) claim is refl;
  one_claim = one_claim;
  alike = λ a b is also. (
    λ e.
        one_claim (as_resources_text a) a b (printed_resources (as_resources_text a) a is refl)
        (printed_resources (as_resources_text a) b also e),
    λ e. ap as_resources_text e,
  );
}
