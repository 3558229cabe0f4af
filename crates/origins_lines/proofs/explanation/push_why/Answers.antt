-- The VRPs that cover the route are those that were given, and then those that are left.
use Rattle.origins_lines.proofs.Common.{List, [], ap, append_assoc, subst, sym, ◌++◌, ◌∙◌, ◌∷◌, ◌≡◌, append-nil}
use Rattle.origins_lines.proofs.Common.{asked_asn, string_bytes, IsLawfulVrp, Vrp}
use Rattle.origins_lines.proofs.Members.{walked}
use Rattle.origins_lines.proofs.WhyLemmas.{IsExplainedSo, all_explained, explained_next, explained_none}
use Rattle.origins_lines.proofs.explanation.push_why.Goals as goal

pub loop-vrp-init : goal.loop-vrp-init
loop-vrp-init g c = (
  [],
  explained_none c.args.form c.args.asked.now.route.prefix (asked_asn c.args.asked.now.route.origin),
  sym (append-nil (string_bytes c.args.text.now)),
)

pub loop-vrp-preserved : goal.loop-vrp-preserved
loop-vrp-preserved g c =
    let route = c.args.asked.now.route.prefix in
    let vrps = c.args.asked.now.lookup.vrps in
    let all : List Vrp = c.covering-vrp-items.result in
    let covering = c.covering-vrp-items.ensures in
    let those = rw c.requires.prefix at covering.covering in
    let done : List Vrp = c.loop-vrp.yielded in
    let (why, explained, text) = c.loop-vrp.invariant in
    let next = c.in_ok-push_next.ensures in
    let given = walked _ done c.loop-vrp.vrp-iterator c.loop-vrp.yielded_by in
    let cut : all ≡ done ++ c.in-Some.vrp ∷ c.next.new.self =
    sym c.into_iter-vrp-iterator.ensures.into_iter_gives ∙ given
    ∙ ap (λ left. done ++ left) c.in-Some.ensures.steps in
    let lawful : IsLawfulVrp c.in-Some.vrp =
    record { prefix = c.recall_invariant-in-loop-vrp.ensures; number = c.recall_invariant-in-loop-vrp-2.ensures } in (
      why ++ next.0,
      explained_next c.args.form route c.recall_invariant.ensures (asked_asn c.args.asked.now.route.origin) vrps all
          done c.next.new.self c.in-Some.vrp lawful those covering.longest_first covering.order cut c.loop-vrp.last
          why next.0 c.reason_for-reason.result (rw c.asked_asn-asn.ensures at c.reason_for-reason.ensures)
          explained next.1,
      next.2 ∙ ap (λ t. t ++ next.0) text ∙ append_assoc _ why next.0,
    )

pub returns : goal.returns
returns g c =
    let route = c.args.asked.now.route.prefix in
    let asn = asked_asn c.args.asked.now.route.origin in
    let vrps = c.args.asked.now.lookup.vrps in
    let all : List Vrp = c.covering-vrp-items.result in
    let done : List Vrp = c.loop-vrp.yielded in
    let (why, so_far, text) = c.loop-vrp.invariant in
    let given = walked _ done c.loop-vrp.vrp-iterator c.loop-vrp.yielded_by in
    let whole : done ≡ all =
    sym (ap (λ left. done ++ left) c.in-None.ensures.steps.0 ∙ append-nil done) ∙ sym given
    ∙ c.into_iter-vrp-iterator.ensures.into_iter_gives in
    let explained = subst (λ ys. IsExplainedSo c.args.form route asn ys c.loop-vrp.last why) whole so_far in
    let those = rw c.requires.prefix at c.covering-vrp-items.ensures.covering in
    let explains = all_explained c.args.form route asn vrps all c.loop-vrp.last why those explained in
    (why, (explained.explained, explains, explained.texts), text)
