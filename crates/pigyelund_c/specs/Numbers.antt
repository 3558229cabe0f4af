-- The numbers that select an option (`foreign/pigyelund.h` names them), and the options.
use Rattle.std.specs.Prelude.{ℕ, List, Option, Some, None}
use Rattle.rpki_chain.specs.declared.path.Overclaim.{Overclaim}
use Rattle.rpki_chain.specs.declared.path.Overclaim.TheVariants.{Refuse, Trim}
use Rattle.rpki_extensions.specs.declared.encoding.Encoding.{Encoding}
use Rattle.rpki_extensions.specs.declared.encoding.Encoding.TheVariants.{Any, Canonical}
use Rattle.pigyelund_c.specs.declared.encodings.Present.{Present}
use Rattle.pigyelund_c.specs.declared.encodings.Present.TheVariants.{Neither, Numbers, Addresses, Both}

-- The number of an encoding.
abbrev pub encoding_number : Encoding → ℕ
encoding_number Any = 16
encoding_number Canonical = 17

-- The number of a mode for an overclaim.
abbrev pub mode_number : Overclaim → ℕ
mode_number Refuse = 32
mode_number Trim = 33

-- The number of the extensions that are present: 1 for AS identifiers, 2 for IP address blocks, and the sum for both.
abbrev pub present_number : Present → ℕ
present_number Neither = 0
present_number Numbers = 1
present_number Addresses = 2
present_number Both = 3

-- The octets of AS identifiers, None if this extension is absent.
abbrev pub numbers_there : Present → List ℕ → Option (List ℕ)
numbers_there Neither octets = None
numbers_there Numbers octets = Some octets
numbers_there Addresses octets = None
numbers_there Both octets = Some octets

-- The octets of IP address blocks, None if this extension is absent.
abbrev pub addresses_there : Present → List ℕ → Option (List ℕ)
addresses_there Neither octets = None
addresses_there Numbers octets = None
addresses_there Addresses octets = Some octets
addresses_there Both octets = Some octets
