-- Texts of AS resources, as the Rust crate `rpki` 0.20.1 reads and prints them.
use Rattle.std.specs.Prelude.{◌≡◌, ◌≢◌, ℕ, List, [], codes}
use Rattle.rpki_chain.specs.Claims.{Claim}
use Rattle.rpki_chain.specs.declared.choice.ResourcesChoice.TheVariants.{Missing, Inherit, Blocks}
use Rattle.rpki_as.specs.ListText.{IsAsListText, HasAsListFault, as_list_text}
use Rattle.rpki_as_block.specs.declared.error.FromStrError.{FromStrError}

-- the text is `inherit`
abbrev pub IsInherit : List ℕ → Type 0
IsInherit text = text ≡ codes "inherit"

-- the text is `inherit` for inherited resources, or else a list; for missing resources the list has no numbers
abbrev pub IsAsResourcesText : List ℕ → Claim → Type 0
IsAsResourcesText text Missing = ¬ IsInherit text × IsAsListText text []
IsAsResourcesText text Inherit = IsInherit text
IsAsResourcesText text (Blocks set) = ¬ IsInherit text × IsAsListText text set × (set ≢ [])

-- the text isn't `inherit`, and has this fault as a list
abbrev pub HasAsResourcesFault : List ℕ → FromStrError → Type 0
HasAsResourcesFault text fault = ¬ IsInherit text × HasAsListFault text fault

-- the printed text of resources
abbrev pub as_resources_text : Claim → List ℕ
as_resources_text Missing = []
as_resources_text Inherit = codes "inherit"
as_resources_text (Blocks set) = as_list_text set
