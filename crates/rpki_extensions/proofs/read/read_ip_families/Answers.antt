-- What a take at the front of the octets tells of all of them.
use Rattle.rpki_extensions.proofs.Common.{families_der, ArePresentClaims, IsIpFamilies, SaysClaims, ip_resources_der}
use Rattle.rpki_ipres.proofs.IpResourcesWritten.{one_of_families}
use Rattle.rpki_ipres.specs.Modes.{ip_families_by}
use Rattle.rpki_extensions.proofs.WholeValueLemmas.{passed_on}
use Rattle.rpki_extensions.proofs.EncodingLemmas.{all_in, families_again, more_in, refused_in}
use Rattle.rpki_extensions.proofs.read.read_ip_families.Goals as goal

pub returns-in_err-families-clause-claims : goal.returns-in_err-families-clause-claims
returns-in_err-families-clause-claims g c =
    let ensured = c.in_err-families.ensures in
    passed_on _ _ _ _ c.from_residual.ensures
    (rw c.cursor-cursor.ensures.octets at
    (refused_in c.args.encoding IsIpFamilies ArePresentClaims (families_der ip_resources_der) SaysClaims
    ip_families_by c.cursor-cursor.result c.take_families_from.new.cursor c.cursor-cursor.ensures.mode _
    ensured.reads ensured.strict ensured.by_mode))

pub returns-in_err-finish-clause-claims : goal.returns-in_err-finish-clause-claims
returns-in_err-finish-clause-claims g c =
    let ensured = c.in_ok-families.ensures in
    passed_on _ _ _ _ c.from_residual-in_err-finish.ensures
    (rw c.cursor-cursor.ensures.octets at
    (more_in c.args.encoding IsIpFamilies ArePresentClaims (families_der ip_resources_der) SaysClaims ip_families_by
    c.cursor-cursor.result c.take_families_from.new.cursor c.cursor-cursor.ensures.mode _ _
    one_of_families (families_again c.cursor-cursor.result c.take_families_from.new.cursor _ ensured.reads_back)
    ensured.reads ensured.strict ensured.by_mode c.in_err-finish.ensures.exact))

pub returns-clause-claims : goal.returns-clause-claims
returns-clause-claims g c =
    let ensured = c.in_ok-families.ensures in
    rw c.cursor-cursor.ensures.octets at
    (all_in c.args.encoding IsIpFamilies ArePresentClaims (families_der ip_resources_der) SaysClaims ip_families_by
    c.cursor-cursor.result c.take_families_from.new.cursor c.cursor-cursor.ensures.mode _ _ ensured.reads
    ensured.strict c.in_ok-finish.ensures.exact)
