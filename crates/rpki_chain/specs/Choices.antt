-- Resources that are missing, inherited or listed (RFC 3779, 2.2.3.4, 2.2.3.5, 3.2.3.2, 3.2.3.3).
use Rattle.std.specs.Prelude.{◌≡◌, ℕ, List, [], Option, Some, None, Result, Ok, Err, codes, ⊤}
use Rattle.rpki_text.specs.declared.memory.OrMemory.{OrMemory}
use Rattle.rpki_text.specs.declared.memory.OrMemory.TheVariants.{Refused, Memory}
use Rattle.rpki_chain.specs.declared.choice.ResourcesChoice.{ResourcesChoice}
use Rattle.rpki_chain.specs.declared.choice.ResourcesChoice.TheVariants.{Missing, Inherit, Blocks}

-- M if the resources are missing, I if they are inherited, and B of what is listed
abbrev pub MatchChoice : {X : Type 0} → ResourcesChoice X → Type 0 → Type 0 → (X → Type 0) → Type 0
MatchChoice Missing M I B = M
MatchChoice Inherit M I B = I
MatchChoice (Blocks x) M I B = B x

-- both are missing, both are inherited, or both list, and R relates the values that they list
abbrev pub ListsBy : {X Y : Type 0} → (X → Y → Type 0) → ResourcesChoice X → ResourcesChoice Y → Type 0
ListsBy {X} {Y} R x y =
    MatchChoice x (y ≡ Missing) (y ≡ Inherit) (λ listed. (other : Y) × R listed other × (y ≡ Blocks other))

-- the resources, or None if they are missing
abbrev pub if_present : {X : Type 0} → ResourcesChoice X → Option (ResourcesChoice X)
if_present Missing = None
if_present Inherit = Some Inherit
if_present (Blocks x) = Some (Blocks x)

-- the call returns the error Refused
abbrev pub IsRefused : {X E : Type 0} → Result X (OrMemory E) → Type 0
IsRefused (Ok x) = ⊥
IsRefused (Err (Refused e)) = ⊤
IsRefused (Err (Memory e)) = ⊥

-- the printed text: nothing, `inherit`, or the text of what is listed, if it is known
abbrev pub choice_text : {X : Type 0} → (X → Option (List ℕ)) → ResourcesChoice X → Option (List ℕ)
choice_text text Missing = Some []
choice_text text Inherit = Some (codes "inherit")
choice_text text (Blocks x) = text x
