-- The statuses of the calls on two sets (numbered in `pigyelund_routes::status`), and the set that is returned with
-- each.
use Rattle.std.specs.Prelude.{ℕ, ◌+◌, Bool, true, false, Result, Ok, Err}
use Rattle.rpki_text.specs.declared.memory.OrMemory.{OrMemory}
use Rattle.rpki_text.specs.declared.memory.OrMemory.TheVariants.{Refused, Memory}
use Rattle.rpki_resources.specs.Triples.{Triple, no_resources}
use Rattle.pigyelund_c.specs.Statuses.{read_set_error_status}
use Rattle.pigyelund_c.specs.declared.pair.ReadPairError.{ReadPairError}
use Rattle.pigyelund_c.specs.declared.pair.ReadPairError.TheVariants.{NoEncoding, First, Second}

-- The status of the reason why octets are not two sets: 16777216 is added for the second set.
abbrev pub read_pair_error_status : ReadPairError → ℕ
read_pair_error_status NoEncoding = 1025
read_pair_error_status (First reason) = read_set_error_status reason
read_pair_error_status (Second reason) = 16777216 + read_set_error_status reason

-- The status of a set that was made of two.
abbrev pub made_status : Result Triple (OrMemory ReadPairError) → ℕ
made_status (Ok set) = 0
made_status (Err (Refused reason)) = read_pair_error_status reason
made_status (Err (Memory error)) = 512

-- The set that is returned with it. It has no resources unless the status is 0.
abbrev pub made_set : Result Triple (OrMemory ReadPairError) → Triple
made_set (Ok set) = set
made_set (Err (Refused reason)) = no_resources
made_set (Err (Memory error)) = no_resources

-- The status of a test: 0 if there is an answer.
abbrev pub test_status : Result Bool (OrMemory ReadPairError) → ℕ
test_status (Ok answer) = 0
test_status (Err (Refused reason)) = read_pair_error_status reason
test_status (Err (Memory error)) = 512

-- The number of an answer: 1 for yes, 0 for no.
abbrev pub answer_number : Bool → ℕ
answer_number true = 1
answer_number false = 0

-- The number that is returned with the status of a test: that of the answer, and 0 with an error.
abbrev pub test_answer : Result Bool (OrMemory ReadPairError) → ℕ
test_answer (Ok answer) = answer_number answer
test_answer (Err error) = 0
