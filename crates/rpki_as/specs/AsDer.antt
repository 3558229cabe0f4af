-- Sequences of blocks of AS numbers and AS resources in DER (RFC 3779, 3.2.3).
use Rattle.std.specs.Prelude.{◌≢◌, ℕ, List}
use Rattle.rpki_chain.specs.declared.choice.ResourcesChoice.{ResourcesChoice}
use Rattle.rpki_chain.specs.declared.choice.ResourcesChoice.TheVariants.{Missing}
use Rattle.rpki_chain.specs.ChoiceDer.{IsChoiceOf, choice_octets}
use Rattle.rpki_chain.specs.Choices.{ListsBy}
use Rattle.rpki_chain.specs.Claims.{Claim, IsClaim}
use Rattle.rpki_chain.specs.Runs.{Runs, IsRunsOfBlocks}
use Rattle.rpki_der.specs.Der.{Refines, sequence_value, value}
use Rattle.rpki_der.specs.SequenceReading.{Encloses, IsSequenceOf}
use Rattle.rpki_der.specs.SequenceWriting.{octets_of_all, sequence_octets}
use Rattle.rpki_as.specs.Blocks.{IsAsSet}
use Rattle.rpki_as_block.specs.AsDer.{IsAsBlock, as_block_octets}
use Rattle.rpki_as_block.specs.Blocks.{as_bounds, new_as_block}
use Rattle.rpki_as_block.specs.declared.block.AsBlock.{AsBlock}

-- a SEQUENCE of blocks, in any order, overlapping or not, and nothing else; it denotes the set of their numbers
-- (3.2.3.4, asIdsOrRanges)
abbrev pub IsAsBlockSequence : List ℕ → Runs → Type 0
IsAsBlockSequence = Refines (IsSequenceOf IsAsBlock) (IsRunsOfBlocks as_bounds)

-- a SEQUENCE of one value of context tag 0 (128 + 32: context, constructed), which contains a NULL for inherited
-- resources, or else a SEQUENCE of at least one block (3.2.3.1 to 3.2.3.4; RFC 6487, 4.8.11)
abbrev pub IsAsChoice : List ℕ → ResourcesChoice (List AsBlock) → Type 0
IsAsChoice = Encloses 48 (Encloses 160 (IsChoiceOf (IsSequenceOf IsAsBlock)))

-- the octets are AS resources as a claim: listed blocks denote the set of their numbers (3.2.3)
abbrev pub IsAsResources : List ℕ → Claim → Type 0
IsAsResources = Refines IsAsChoice (ListsBy (IsRunsOfBlocks as_bounds))

-- ---- encodings

-- the octets of a run: an AS number if it is one number, or else the SEQUENCE of its bounds (3.2.3.5)
abbrev pub as_run_octets : ℕ × ℕ → List ℕ
as_run_octets run = as_block_octets (new_as_block run)

-- the octets of the runs of a set, one after another
abbrev pub as_set_octets : Runs → List ℕ
as_set_octets set = octets_of_all as_run_octets set

-- the octets of a set: the SEQUENCE of its runs (3.2.3.4)
abbrev pub as_sequence_octets : Runs → List ℕ
as_sequence_octets set = sequence_octets as_run_octets set

-- the octets of resources that aren't missing: a SEQUENCE of one value of context tag 0 (3.2.3.1)
abbrev pub as_resources_octets : Claim → List ℕ
as_resources_octets claim = sequence_value (value 160 (choice_octets as_sequence_octets claim))

-- a claim that has an encoding: inherited resources, or a set that isn't empty
abbrev pub IsPresentAsClaim : Claim → Type 0
IsPresentAsClaim claim = IsClaim IsAsSet claim × (claim ≢ Missing)
