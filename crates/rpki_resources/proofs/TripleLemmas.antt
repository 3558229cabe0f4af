-- What is said of three sets that are made one after the other.
use Rattle.rpki_resources.proofs.Common.{Err, Ok, Result, arith, ◌≡◌, IfOk, MatchResult, Runs, InEach, Triple}

-- where each is what an operation makes of the sets of its kind, so is what is made of them
pub made : {E : Type 0} (Makes : Runs → Runs → Runs → Type 0) (a b : Triple) (asn ipv4 : Runs) (r : Result Runs E)
    (q : Result Triple E)
    → MatchResult r (λ (set : Runs). q ≡ Ok (record { asn = asn; ipv4 = ipv4; ipv6 = set })) (λ error. q ≡ Err error)
    → Makes a.asn b.asn asn → Makes a.ipv4 b.ipv4 ipv4 → IfOk r (Makes a.ipv6 b.ipv6)
    → IfOk q (λ t. InEach (λ kind. Makes (kind a) (kind b) (kind t)))
made Makes a b asn ipv4 r q is x y z = grind (arith)
