-- What is printed of a list of blocks is read as blocks of their bounds.
use Rattle.rpki_ip_block.proofs.Common.{All, List, MatchResult, Result, Some, [], arith, codes, inl, inr, lit<, map}
use Rattle.rpki_ip_block.proofs.Common.{refl, ℕ, ◌++◌, ◌<◌, ◌∷◌, ◌≡◌, All-append, All-cons, All-head, All-nil, All-tail}
use Rattle.rpki_ip_block.proofs.Common.{Contains-append_left, AllByRecursion, flat_map, AddressFamily, Ipv4, Ipv6}
use Rattle.rpki_ip_block.proofs.Common.{FromStrError, IsElement, elements-joined, HaveValues, elements, IsMemory}
use Rattle.rpki_ip_block.proofs.Common.{AnswersOrMemory, OrMemory, IsIpBlockText, ip_bounds, HasBlocks, HasBlocksFault}
use Rattle.rpki_ip_block.proofs.Common.{HasIpBlocks, HasIpBlocksFault, IsElementText, IsFamilyOf, colon, IsBlockOf}
use Rattle.rpki_ip_block.proofs.Common.{block_list_text, ip_block_text, IpBlock}
use Rattle.rpki_ip_block.proofs.BlockFrontLemmas.{IsPlainBlock, not_foreign}
use Rattle.rpki_ip_block.proofs.PrintedBlockLemmas.{written_of}

-- what is printed behind the first block of a list
abbrev behind : AddressFamily → List IpBlock → List ℕ
behind family bs = flat_map (λ next. codes ", " ++ next) (map (ip_block_text family) bs)

-- what is printed of blocks of IPv4 has no byte from the colon on
small_behind : (bs : List IpBlock) → All (λ c. c < colon) (block_list_text Ipv4 bs)
    → All (λ c. c < colon) (behind Ipv4 bs)
small_behind [] all = All-nil (λ c. c < colon)
small_behind (b ∷ bs) all =
    let text = block_list_text Ipv4 (b ∷ bs) in
    All-cons (λ c. c < colon) 44 (32 ∷ text) (lit< tt) (All-cons (λ c. c < colon) 32 text (lit< tt) all)

small_list : (bs : List IpBlock) → All (IsBlockOf Ipv4) bs → All (λ c. c < colon) (block_list_text Ipv4 bs)
small_list [] is = All-nil (λ c. c < colon)
small_list (b ∷ bs) is =
    let first = (written_of Ipv4 b (All-head (IsBlockOf Ipv4) b bs is)).plain.own in
    let rest = small_behind bs (small_list bs (All-tail (IsBlockOf Ipv4) b bs is)) in
    All-append (λ c. c < colon) (ip_block_text Ipv4 b) (behind Ipv4 bs) first rest

-- blocks that the texts write, with the bounds of bs
pub record WritesAll (Has : List ℕ → IpBlock → Type 0) (texts : List (List ℕ)) (bs : List IpBlock) : Type 0 where
  pub values : List IpBlock
  pub have : HaveValues Has texts values
  pub bounds : map ip_bounds values ≡ map ip_bounds bs

module _ (family : AddressFamily) (Has : List ℕ → IpBlock → Type 0)
    (own : (text : List ℕ) (b : IpBlock) → IsPlainBlock family text b → Has text b) where
  all_written : (bs : List IpBlock) → All (IsBlockOf family) bs → WritesAll Has (map (ip_block_text family) bs) bs
  all_written [] is = record { values = []; have = tt; bounds = refl }
  all_written (b ∷ bs) is =
      let first = written_of family b (All-head (IsBlockOf family) b bs is) in
      let rest = all_written bs (All-tail (IsBlockOf family) b bs is) in
      record {
        values = first.block ∷ rest.values;
        have = (own (ip_block_text family b) first.block first.plain, rest.have);
        bounds = cc (first.bounds, rest.bounds);
      }

  all_elements : (bs : List IpBlock) → All (IsBlockOf family) bs
      → AllByRecursion IsElement (map (ip_block_text family) bs)
  all_elements [] is = tt
  all_elements (b ∷ bs) is =
      let plain = (written_of family b (All-head (IsBlockOf family) b bs is)).plain in
      let more = all_elements bs (All-tail (IsBlockOf family) b bs is) in
      (record { shown = plain.shown; some = plain.some }, more)

  list_written : (text : List ℕ) (bs : List IpBlock) → All (IsBlockOf family) bs → text ≡ block_list_text family bs
      → WritesAll Has (elements text) bs
  list_written text bs is printed =
      rw (printed, elements-joined (map (ip_block_text family) bs) (all_elements bs is)) (all_written bs is)

-- what is printed of blocks is a list of their family
pub family_list : (family : AddressFamily) (text : List ℕ) (bs : List IpBlock) → All (IsBlockOf family) bs
    → text ≡ block_list_text family bs → WritesAll (IsElementText family) (elements text) bs
family_list family =
    list_written family (IsElementText family) (λ text b plain. (not_foreign family text plain.own, plain.writes))

-- and is told to be of their family, unless there are none
pub record WritesList (text : List ℕ) (bs : List IpBlock) : Type 0 where
  pub family : AddressFamily
  pub is : IsFamilyOf text family
  pub writes : WritesAll (IsIpBlockText (Some family)) (elements text) bs

v4_list_with_its_family : (text : List ℕ) (bs : List IpBlock) → All (IsBlockOf Ipv4) bs → text ≡ block_list_text Ipv4 bs
    → WritesList text bs
v4_list_with_its_family text bs is printed = record {
  family = Ipv4;
  is = inr (rw printed (not_foreign Ipv4 (block_list_text Ipv4 bs) (small_list bs is)), refl);
  writes = list_written Ipv4 (IsIpBlockText (Some Ipv4)) (λ text b plain. plain.writes) text bs is printed;
}

pub list_with_its_family : (family : AddressFamily) (text : List ℕ) (bs : List IpBlock) → All (IsBlockOf family) bs
    → text ≡ block_list_text family bs → WritesList text bs
list_with_its_family Ipv4 text bs is printed = v4_list_with_its_family text bs is printed
list_with_its_family Ipv6 text [] is printed = v4_list_with_its_family text [] (All-nil (IsBlockOf Ipv4)) printed
list_with_its_family Ipv6 text (b ∷ bs) is printed =
    let own = (written_of Ipv6 b (All-head (IsBlockOf Ipv6) b bs is)).plain.own in
    record {
      family = Ipv6;
      is = inl (rw printed (Contains-append_left (ip_block_text Ipv6 b) (behind Ipv6 bs) colon own), refl);
      writes = list_written Ipv6 (IsIpBlockText (Some Ipv6)) (λ text b plain. plain.writes) text (b ∷ bs) is printed;
    }

-- so a reader that answers what a text writes reads it back
module _ {V : Type 0} (view : V → List IpBlock) (text : List ℕ) (r : Result V (OrMemory FromStrError)) where
  pub family_list_back : (family : AddressFamily)
      → AnswersOrMemory view (HasBlocks family text) (HasBlocksFault family text) r → (bs : List IpBlock)
      → All (IsBlockOf family) bs → text ≡ block_list_text family bs
      → MatchResult r (λ v. map ip_bounds (view v) ≡ map ip_bounds bs) IsMemory
  family_list_back family exact bs is printed =
      let all = family_list family text bs is printed in
      grind (arith, all.bounds, exact.each_value all.values all.have)

  pub ip_list_back : AnswersOrMemory view (HasIpBlocks text) (HasIpBlocksFault text) r
      → (family : AddressFamily) (bs : List IpBlock) → All (IsBlockOf family) bs → text ≡ block_list_text family bs
      → MatchResult r (λ v. map ip_bounds (view v) ≡ map ip_bounds bs) IsMemory
  ip_list_back exact family bs is printed =
      let ensured = list_with_its_family family text bs is printed in
      let all = ensured.writes in
      grind (arith, all.bounds, exact.each_value all.values (ensured.family, ensured.is, all.have))
