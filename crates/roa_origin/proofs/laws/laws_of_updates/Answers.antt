-- What is listed is what is kept and what is announced.
use Rattle.roa_origin.proofs.TableAfterChanges.{lists, one_updated, sends}
use Rattle.roa_origin.proofs.laws.laws_of_updates.Goals as goal

pub returns : goal.returns
returns c = record { sent = sends; listed = lists; one = one_updated }
