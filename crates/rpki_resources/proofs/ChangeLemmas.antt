-- What differs between two sets leads from the one to the other.
use Rattle.rpki_resources.proofs.Common.{[], arith, ℕ, ◌↔◌, ◌≡◌, IsDifference, IsUnion, Holds, IsRunsOf, Runs}
use Rattle.rpki_resources.proofs.Common.{Covers-nil, IsDifferenceOf, Triple}
use Rattle.rpki_resources.specs.Triples.{no_resources}
use Rattle.rpki_chain.proofs.RunLists.{Holds-decided, IsRunsOf-same, IsRunsOf-unique}

-- sets with the same numbers are one
one_set : (S U : ℕ → Type 0) (a b : Runs) → IsRunsOf S a → IsRunsOf U b → ((n : ℕ) → S n ↔ U n) → a ≡ b
one_set S U a b h k same = IsRunsOf-unique U a b (IsRunsOf-same a S U same h) k

-- without what is removed and with what is added, the second set is the first
pub restored : (a b added removed kept set : Runs) → IsRunsOf (Holds a) a → IsDifference a b added
    → IsDifference b a removed → IsDifference b removed kept → IsUnion kept added set → set ≡ a
restored a b added removed kept set own plus minus left u = one_set _ _ set a u own (λ n.
    grind (arith, plus.members n, minus.members n, left.members n, Holds-decided a n, Holds-decided b n))

-- what differs from a set in one way is one set
pub one_difference : (a b x y : Triple) → IsDifferenceOf a b x → IsDifferenceOf a b y → x ≡ y
one_difference a b x y h k = λ i. record {
  asn = IsRunsOf-unique _ x.asn y.asn h.asn k.asn i;
  ipv4 = IsRunsOf-unique _ x.ipv4 y.ipv4 h.ipv4 k.ipv4 i;
  ipv6 = IsRunsOf-unique _ x.ipv6 y.ipv6 h.ipv6 k.ipv6 i;
}

-- a set of which nothing is left without another lies in it
inside : (a b : Runs) → IsDifference a b [] → (n : ℕ) → Holds a n → Holds b n
inside a b h n held = grind (arith, h.members n, Holds-decided b n, Covers-nil (λ (x : ℕ × ℕ). x) n)

-- sets between which nothing differs are the same
pub same_where_none : (a b : Runs) → IsRunsOf (Holds a) a → IsRunsOf (Holds b) b → IsDifference a b []
    → IsDifference b a [] → a ≡ b
same_where_none a b own other plus minus = one_set _ _ a b own other (λ n. (inside a b plus n, inside b a minus n))

-- and between the same sets nothing differs
nothing : (a : Runs) → IsDifference a a []
nothing a = grind (arith)

pub none_where_same : (a b rest : Triple) → IsDifferenceOf a b rest → a ≡ b → rest ≡ no_resources
none_where_same a b rest h same =
    one_difference a b rest no_resources h
    (rw same (record { asn = nothing b.asn; ipv4 = nothing b.ipv4; ipv6 = nothing b.ipv6 }))
