use Rattle.rpki_ip_block.proofs.Common.{Err, None, Ok, inl, inr, lit<, dash, slash, Prefix, Range}
use Rattle.std.proofs.lemmas.Result.{err_from_is_err_and}
use Rattle.std.proofs.lemmas.Str.Pattern.{split_parts}
use Rattle.rpki_prefix.proofs.PrefixTextLemmas.{around_split}
use Rattle.rpki_ip_block.proofs.BlockTextLemmas.{block_answers}
use Rattle.rpki_ip_block.proofs.text.read_block.Goals as goal

pub returns-in_err-prefix_between : goal.returns-in_err-prefix_between
returns-in_err-prefix_between c =
    let p = err_from_is_err_and c.from_residual.result c.from_residual.ensures.1 in
    rw (p.1, p.2) (block_answers c.args.wanted c.args.text.now (Err _) (inl
    (around_split slash _ c.in-Some.left c.in-Some.right _ c.in-Some.ensures.cases (lit< tt)
    c.in_err-prefix_between.ensures)))

pub returns-in-Some : goal.returns-in-Some
returns-in-Some c =
    block_answers c.args.wanted c.args.text.now (Ok (Prefix _))
    (around_split slash _ c.in-Some.left c.in-Some.right _ c.in-Some.ensures.cases (lit< tt)
    c.in_ok-prefix_between.ensures)

pub returns-in_err-range_between : goal.returns-in_err-range_between
returns-in_err-range_between c =
    let p =
    err_from_is_err_and c.from_residual-in_err-range_between.result
    c.from_residual-in_err-range_between.ensures.1 in
    let none = split_parts slash c.args.text.now None c.in_default.ensures.cases (lit< tt) in
    rw (p.1, p.2) (block_answers c.args.wanted c.args.text.now (Err _) (inr (
      none,
      inl
          (around_split dash _ c.in-Some-split_once.left c.in-Some-split_once.right _ c.in-Some-split_once.ensures.cases
          (lit< tt) c.in_err-range_between.ensures),
    )))

pub returns-in-Some-split_once : goal.returns-in-Some-split_once
returns-in-Some-split_once c =
    let none = split_parts slash c.args.text.now None c.in_default.ensures.cases (lit< tt) in
    block_answers c.args.wanted c.args.text.now (Ok (Range _)) (
      none,
      inl
          (around_split dash _ c.in-Some-split_once.left c.in-Some-split_once.right _ c.in-Some-split_once.ensures.cases
          (lit< tt) c.in_ok-range_between.ensures),
    )

pub returns-in_err-read_single : goal.returns-in_err-read_single
returns-in_err-read_single c =
    let p =
    err_from_is_err_and c.from_residual-in_err-read_single.result c.from_residual-in_err-read_single.ensures.1 in
    let none = split_parts slash c.args.text.now None c.in_default.ensures.cases (lit< tt) in
    let apart = split_parts dash c.args.text.now None c.in_default-split_once.ensures.cases (lit< tt) in
    rw (p.1, p.2) (block_answers c.args.wanted c.args.text.now (Err _)
    (inr (none, inr (apart, c.in_err-read_single.ensures.found))))

pub returns : goal.returns
returns c =
    let none = split_parts slash c.args.text.now None c.in_default.ensures.cases (lit< tt) in
    let apart = split_parts dash c.args.text.now None c.in_default-split_once.ensures.cases (lit< tt) in
    block_answers c.args.wanted c.args.text.now (Ok (Range _))
    (none, inr (apart, c.in_ok-read_single.ensures.found))
