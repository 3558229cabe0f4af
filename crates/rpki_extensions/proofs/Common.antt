-- What the proofs of this crate use of std, of the crates below and of its own definitions, passed on by one name.
pub use Rattle.std.proofs.Common.{Bool, Err, IfOk, IsErr, List, MatchResult, None, Ok, Option, Result, Some, [], ap}
pub use Rattle.std.proofs.Common.{arith, get_or, inr, length, option_map, refl, rules, subst, sym, take, ℕ, ◌++◌, ◌+◌}
pub use Rattle.std.proofs.Common.{◌<◌, ◌∙◌, ◌∷◌, ◌≡◌, ◌≢◌}
pub use Rattle.std.proofs.lemmas.List.{append-nil, get_or_default, take_all}
pub use Rattle.std.specs.Prelude.{IfSome, ◌^◌}
pub use Rattle.rpki_der.specs.FamiliesDer.{ByFamily, families_der}
pub use Rattle.rpki_der.specs.declared.family.AddressFamily.{AddressFamily}
pub use Rattle.rpki_der.specs.declared.family.AddressFamily.TheVariants.{Ipv4, Ipv6}
pub use Rattle.rpki_chain.specs.Claims.{Claim}
pub use Rattle.rpki_chain.specs.Runs.{Holds, IsRunsOfBlocks, Runs}
pub use Rattle.rpki_chain.specs.declared.choice.ResourcesChoice.TheVariants.{Missing}
pub use Rattle.rpki_der.specs.Reading.{ended}
pub use Rattle.rpki_der.specs.declared.error.DerError.{DerError}
pub use Rattle.rpki_ipres.specs.Resources.{ArePresentClaims, IsFamilyClaim, IsPresentFamilyClaim}
pub use Rattle.rpki_chain.specs.Choices.{if_present}
pub use Rattle.rpki_ipres.specs.ResourcesDer.{IsIpFamilies, SaysClaims, ip_families_der, ip_resources_der}
pub use Rattle.rpki_resources.specs.Triples.{HasEachOf, IsOneInherited, Triple}
pub use Rattle.rpki_text.specs.Memory.{IfRefused}
pub use Rattle.rpki_text.specs.declared.memory.OrMemory.{OrMemory}
pub use Rattle.rpki_text.specs.declared.memory.OrMemory.TheVariants.{Memory, Refused}
pub use Rattle.rpki_extensions.specs.Claims.{AreAddressClaims, AreClaims, claim_or_missing}
pub use Rattle.rpki_extensions.specs.Encodings.{IsAddressValue, IsSaidIn, is_canonical}
pub use Rattle.rpki_extensions.specs.Issued.{IsIssuedOfEach, IsNotIssuedOfEach, HasVerifyError, IsVerified}
pub use Rattle.rpki_extensions.specs.Paths.{IsVerifiedPath}
pub use Rattle.rpki_extensions.specs.declared.encoding.Encoding.{Encoding}
pub use Rattle.rpki_extensions.specs.declared.encoding.Encoding.TheVariants.{Any, Canonical}
pub use Rattle.rpki_extensions.specs.declared.extensions.Extensions.{Extensions}
