-- The items of a list of a SLURM file.
use Rattle.std.specs.Prelude.{◌≡◌, ◌⊎◌, ℕ, ◌+◌, List, [], ◌∷◌}
use Rattle.json.specs.Json.{Json, Items, Members, no_items, item, array}
use Rattle.roa_vrps.specs.declared.fault.MemberFault.{MemberFault}
use Rattle.roa_slurm.specs.Objects.{HasValue, IsArray, IsWrongMember}
use Rattle.roa_slurm.specs.declared.fault.SlurmFault.{SlurmFault}
use Rattle.roa_slurm.specs.declared.fault.SlurmFault.TheVariants.{Item, Member}
use Rattle.roa_slurm.specs.declared.fault.SlurmItemFault.{SlurmItemFault}
use Rattle.roa_slurm.specs.declared.member.SlurmMember.{SlurmMember}

module _ {X : Type 0} (Is : Json → X → Type 0) where
  -- items have these values, in their order
  abbrev pub AreEntries : Items → List X → Type 0
  AreEntries no_items xs = xs ≡ []
  AreEntries (item value items) xs =
      (x : X) × Is value x × (more : List X) × (xs ≡ x ∷ more) × AreEntries items more

  -- the object has exactly one such list, and its items have these values
  abbrev pub HasList : SlurmMember → Members → List X → Type 0
  HasList part members xs = (items : Items) × HasValue part members (array items) × AreEntries items xs

  module _ (Fails : Json → SlurmItemFault → Type 0) where
    -- the item with this number is the first invalid one, and has this fault; first is the number of the first item
    abbrev pub HaveInvalid : ℕ → Items → ℕ → SlurmItemFault → Type 0
    HaveInvalid first no_items number fault = ⊥
    HaveInvalid first (item value items) number fault =
        (Fails value fault × (number ≡ first)) ⊎ ((x : X) × Is value x × HaveInvalid (first + 1) items number fault)

    -- the fault of a list: of the member, or of its first invalid item (the first item has number 1)
    abbrev pub HasListFault : SlurmMember → Members → SlurmFault → Type 0
    HasListFault part members fault =
        ((wrong : MemberFault) × IsWrongMember part IsArray members wrong × (fault ≡ Member part wrong))
        ⊎ ((items : Items) × HasValue part members (array items) × (number : ℕ) × (wrong : SlurmItemFault)
        × HaveInvalid 1 items number wrong × (fault ≡ Item part number wrong))
