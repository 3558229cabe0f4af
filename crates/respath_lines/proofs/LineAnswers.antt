-- A line has at most one answer.
use Rattle.respath_lines.proofs.Common.{List, codes, sym, ℕ, ◌∙◌, ◌≡◌, ◌≢◌, AddressFamily, IsUtf8, one_resources}
use Rattle.respath_lines.proofs.Common.{one_of_families}
use Rattle.rpki_der.specs.declared.family.AddressFamily.TheVariants.{Ipv4, Ipv6}
use Rattle.respath_lines.specs.Answer.{IsAnswer, IsUnknown}
use Rattle.respath_lines.specs.Command.{argument_of, command_of, kind_of}
use Rattle.respath_lines.specs.Cover.{IsCoverIp}
use Rattle.respath_lines.specs.Der.{IsDerAs, IsDerIp}
use Rattle.respath_lines.specs.Kinds.{IsByKind}
use Rattle.respath_lines.specs.Norm.{IsNormAs, IsNormIp}
use Rattle.respath_lines.specs.Path.{IsPathAs, IsPathIp}
use Rattle.respath_lines.specs.Read.{IsReadAs, IsReadIp}
use Rattle.respath_lines.proofs.SingleAnswers.{read_once, same_text, shown_once, single_as, single_as_resources}
use Rattle.respath_lines.proofs.SingleAnswers.{single_cover, single_ip, single_ip_resources}
use Rattle.respath_lines.proofs.SinglePaths.{path_once}

-- ---- commands

-- each kind, and any other word, has at most one answer
by_kind : (IsAs : List ℕ → Type 0) (IsIp : AddressFamily → List ℕ → Type 0) (kind a b : List ℕ)
    → (IsAs a → IsAs b → a ≡ b) → ((family : AddressFamily) → IsIp family a → IsIp family b → a ≡ b)
    → IsByKind IsAs IsIp kind a → IsByKind IsAs IsIp kind b → a ≡ b
by_kind IsAs IsIp kind a b of_as of_ip h k = same_text a b (λ other.
    let no_as : kind ≢ codes "as" = λ is. other (of_as (h.as_numbers is) (k.as_numbers is)) in
    let no_v4 : kind ≢ codes "v4" = λ is. other (of_ip Ipv4 (h.v4_addresses is) (k.v4_addresses is)) in
    let no_v6 : kind ≢ codes "v6" = λ is. other (of_ip Ipv6 (h.v6_addresses is) (k.v6_addresses is)) in
    other (h.unknown no_as no_v4 no_v6 ∙ sym (k.unknown no_as no_v4 no_v6)))

-- ---- lines

module _ (line a b : List ℕ) (h : IsAnswer line a) (k : IsAnswer line b) (other : a ≢ b) where
  abbrev kind : List ℕ
  kind = kind_of line

  abbrev list : List ℕ
  list = argument_of line

  of_text : ¬ IsUtf8 line
  of_text utf8 =
      let unknown : IsUnknown (command_of line) = record {
        no_norm = λ is. other (by_kind (IsNormAs list) (λ family. IsNormIp family list) kind a b
            (shown_once (single_as list) _ _ a b) (λ family. shown_once (single_ip family list) _ _ a b)
            (h.norm utf8 is) (k.norm utf8 is));
        no_der = λ is. other (by_kind (IsDerAs list) (λ family. IsDerIp family list) kind a b
            (shown_once (single_as_resources list) _ _ a b)
            (λ family. shown_once (single_ip_resources family list) _ _ a b) (h.der utf8 is) (k.der utf8 is));
        no_read = λ is. other (by_kind (IsReadAs list) (λ family. IsReadIp family list) kind a b
            (read_once _ _ _ one_resources list a b) (λ family. read_once _ _ _ one_of_families list a b)
            (h.read utf8 is) (k.read utf8 is));
        no_cover = λ is. other (by_kind _ (λ family. IsCoverIp family list) kind a b (λ x y. x ∙ sym y)
            (λ family. shown_once (single_cover family list) _ _ a b) (h.cover utf8 is) (k.cover utf8 is));
        no_path = λ is. other (by_kind (IsPathAs list) (λ family. IsPathIp family list) kind a b
            (path_once single_as _ _ _ list a b) (λ family. path_once (single_ip family) _ _ _ list a b)
            (h.path utf8 is) (k.path utf8 is));
      } in
      other (h.unknown utf8 unknown ∙ sym (k.unknown utf8 unknown))

pub one_answer : (line a b : List ℕ) → IsAnswer line a → IsAnswer line b → a ≡ b
one_answer line a b h k = same_text a b (λ other.
    let not_text = of_text line a b h k other in other (h.not_utf8 not_text ∙ sym (k.not_utf8 not_text)))
