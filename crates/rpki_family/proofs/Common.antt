-- What the proofs of this crate use of std, of the crates below and of its own definitions, passed on by one name.
pub use Rattle.std.proofs.Common.{List, Option, [], ap, arith, inl, inr, map, refl, subst, sym, take, ℕ, ◌*◌, ◌++◌, ◌-◌}
pub use Rattle.std.proofs.Common.{◌/◌, ◌<◌, ◌^◌, ◌↔◌, ◌∙◌, ◌∷◌, ◌≡◌, ◌≤◌, ◌⊎◌}
pub use Rattle.std.proofs.lemmas.List.{map-append, take_more}
pub use Rattle.std.proofs.lemmas.List.Elements.{All-head, All-map, All-push, All-tail}
pub use Rattle.std.specs.List.{All}
pub use Rattle.std.specs.Slice.Iter.{iter_rest}
pub use Rattle.rpki_ip.specs.AddrText.{family_of}
pub use Rattle.rpki_chain.specs.Runs.{Holds, IsRunsOfBlocks, Runs}
pub use Rattle.rpki_chain_core.specs.Sets.{IsWithin}
pub use Rattle.rpki_cover.specs.Covers.{IsShortestCover, IsV4CoverList, widened}
pub use Rattle.rpki_ip.specs.Whole.{HasWholeBounds, IsWhole}
pub use Rattle.rpki_ip_block.specs.Blocks.{ip_bounds, new_ip_block, prefix_bounds}
pub use Rattle.rpki_ip_block.specs.declared.block.IpBlock.{IpBlock}
pub use Rattle.rpki_ip_block.specs.BlockCovers.{runs_cover}
pub use Rattle.rpki_ipres.specs.SetText.{IsFamilySet, IsIpSet}
pub use Rattle.rpki_family.specs.Families.{HasBoundsIn, IsCoverListIn, Ipv4Of}
