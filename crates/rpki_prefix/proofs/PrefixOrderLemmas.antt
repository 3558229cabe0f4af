-- The orders of prefixes, without and with maximum lengths, are total, and what stands at one place in them is the
-- same.
use Rattle.rpki_prefix.proofs.Common.{Bool, arith, eqb, false, rules, true, ◌&&◌, ◌↔◌, ◌∙◌, ◌≡◌, Equal, IpAddr, V4, V6}
use Rattle.rpki_prefix.proofs.Common.{MaxLenValue, max_len_cmp, prefix_cmp}
use Rattle.std.proofs.lemmas.Bool.Decides.{nat_tests}
use Rattle.std.proofs.lemmas.Cmp.{tied_itself}
use Rattle.std.specs.Cmp.{Equal-is, IsTotalOrder}
use Rattle.std.specs.Cmp.Rules.{comparing}
use Rattle.std.specs.Option.{option_eq}
use Rattle.rpki_prefix.specs.OrderLaws.{IsSameAddress, max_len_ties}

pub prefix_total : IsTotalOrder prefix_cmp
prefix_total = Prim.search (comparing, rules) depth 9

-- a test of whether two addresses are one
abbrev same_addr : IpAddr → IpAddr → Bool
same_addr (V4 m) (V4 n) = eqb m n
same_addr (V6 m) (V6 n) = eqb m n
same_addr (V4 m) (V6 n) = false
same_addr (V6 m) (V4 n) = false

is_test : IsSameAddress same_addr
is_test = grind arith

pub max_len_total : IsTotalOrder max_len_cmp
max_len_total = Prim.search (comparing, rules) depth 9

-- what passes both tests is the same
same_value : (m n : MaxLenValue)
    → ((same_addr m.prefix.addr n.prefix.addr && eqb m.prefix.len n.prefix.len) && option_eq eqb m.max_len n.max_len)
    ≡ true → m ≡ n
same_value m n e = grind (arith, nat_tests)

pub max_len_one_place : (m n : MaxLenValue) → (max_len_cmp m n ≡ Equal) ↔ (m ≡ n)
max_len_one_place m n = (
  λ e. same_value m n (max_len_ties same_addr is_test m n ∙ (Equal-is (max_len_cmp m n)).1 e),
  λ same. rw same (tied_itself max_len_total n),
)
