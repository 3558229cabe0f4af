-- One certificate of a path after another.
use Rattle.rpki_extensions.proofs.Common.{List, [], arith, get_or, get_or_default, length, refl, take, ℕ, ◌++◌, ◌+◌}
use Rattle.rpki_extensions.proofs.Common.{◌<◌, ◌∷◌, ◌≡◌, HasEachOf, Triple, IfRefused, OrMemory, Memory, Refused}
use Rattle.rpki_extensions.proofs.Common.{HasVerifyError, IsVerified, IsVerifiedPath, Extensions}
use Rattle.std.proofs.lemmas.List.{take_more}
use Rattle.rpki_extensions.specs.Paths.{IsFirstVerifyError}
use Rattle.rpki_extensions.specs.declared.error.VerifyPathError.{VerifyPathError}
use Rattle.rpki_extensions.proofs.IssuedSetLemmas.{inside}

-- one certificate more
append : (before : List Extensions) (anchor issuer set : Triple) (certificate : Extensions)
    → IsVerifiedPath anchor before issuer → IsVerified issuer certificate set
    → IsVerifiedPath anchor (before ++ certificate ∷ []) set
append [] anchor issuer set certificate same is = (set, rw (← same) is, refl)
append (first ∷ before) anchor issuer set certificate (next, one, path) is =
    (next, one, append before next issuer set certificate path is)

pub path-more : (certificates : List Extensions) (at : ℕ) (none : Extensions) (anchor issuer set : Triple)
    → at < length certificates → IsVerifiedPath anchor (take at certificates) issuer
    → IsVerified issuer (get_or certificates at none) set → IsVerifiedPath anchor (take (at + 1) certificates) set
path-more certificates at none anchor issuer set small path is =
    rw (take_more certificates at none small)
    (append (take at certificates) anchor issuer set (get_or certificates at none) path is)

-- what is left lies in the anchor's
pub path-inside : (certificates : List Extensions) (anchor set : Triple) → IsVerifiedPath anchor certificates set
    → HasEachOf anchor set
path-inside [] anchor set same = grind (arith)
path-inside (certificate ∷ certificates) anchor set (next, is, path) =
    grind (arith, inside anchor next certificate is, path-inside certificates next set path)

-- where the certificate at a place isn't verified by what the ones before it leave, the path is refused there
pub path-refused : {A : Type 0} (certificates : List Extensions) (at : ℕ) (none : Extensions) (anchor issuer : Triple)
    → at < length certificates → IsVerifiedPath anchor (take at certificates) issuer
    → (error : OrMemory (VerifyPathError A))
    → IfRefused (λ r. (r.step ≡ at) × HasVerifyError issuer (get_or certificates at none) r.reason) error
    → IfRefused (IsFirstVerifyError anchor certificates) error
path-refused certificates at none anchor issuer small path (Refused r) (same, ensured) = rw same (
  get_or certificates at none,
  small,
  get_or_default certificates at _ none small,
  (issuer, path, ensured),
)
path-refused certificates at none anchor issuer small path (Memory e) is = tt
