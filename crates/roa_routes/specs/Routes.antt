-- The route of a line: a prefix and an AS number, or a line of `bgpdump -m`, which prints the tables and the updates of
-- route collectors (RFC 6396, 4.2 to 4.4; RFC 8050, 3 and 4).
use Rattle.std.specs.Prelude.{◌≡◌, ◌⊎◌, ◌==◌, ◌-◌, ◌++◌, ℕ, Bool, List, [], Option, Some, None, IsTrue, codes, length}
use Rattle.std.specs.Prelude.{slice_get, slice_index}
use Rattle.std.specs.List.{after_first, after_last, before_first, list_any, position_or_len, slice_split}
use Rattle.std.specs.Str.{IsUtf8, trim}
use Rattle.rpki_text.specs.Cuts.{is_comma, is_space}
use Rattle.rpki_text.specs.Numbers.{number_fault_text}
use Rattle.rpki_addr.specs.FromStrResults.{address_fault_text}
use Rattle.rpki_base.specs.AsnText.{IsAsnText}
use Rattle.rpki_prefix.specs.PrefixText.{IsPrefixText, HasPrefixTextFault}
use Rattle.rpki_prefix.specs.Values.{FamilyPrefix, prefix_error_text}
use Rattle.rpki_prefix.specs.declared.error.ParsePrefixError.{ParsePrefixError}
use Rattle.rpki_prefix.specs.declared.error.ParsePrefixError.TheVariants.{Empty, MissingLen, InvalidAddr, InvalidLen}
use Rattle.rpki_prefix.specs.declared.error.ParsePrefixError.TheVariants.{InvalidPrefix}
use Rattle.roa_routes.specs.declared.fault.RouteFault.{RouteFault}
use Rattle.roa_routes.specs.declared.fault.RouteFault.TheVariants.{NotUtf8, TooFewFields, CommaForSpace, OtherWord}
use Rattle.roa_routes.specs.declared.fault.RouteFault.TheVariants.{Prefix, Asn}
use Rattle.roa_routes.specs.declared.route.Kind.{Kind}
use Rattle.roa_routes.specs.declared.route.Kind.TheVariants.{Dump, Skipped, Words}
use Rattle.roa_routes.specs.declared.route.Route.{Route}

-- a text is the prefix of the route, and Origin holds for its origin
pub record IsRouteBy (Origin : Option ℕ → Type 0) (prefix_text : List ℕ) (route : Route) : Type 0 where
  pub prefix : IsPrefixText prefix_text route.prefix
  pub origin : Origin route.origin

-- the first fault of a prefix and an origin: the text is not a prefix, or it is one and NoOrigin holds for the origin
abbrev pub HasFaultBy : Type 0 → List ℕ → RouteFault → Type 0
HasFaultBy NoOrigin prefix_text (Prefix f) = HasPrefixTextFault prefix_text f
HasFaultBy NoOrigin prefix_text (Asn f) = ((p : FamilyPrefix) × IsPrefixText prefix_text p) × NoOrigin
HasFaultBy NoOrigin prefix_text fault = ⊥

-- the text is not an AS number
abbrev pub IsNoAsnText : List ℕ → Type 0
IsNoAsnText text = (n : ℕ) → ¬ IsAsnText text n

-- ---- a prefix and an AS number

-- the text of a line up to its first space, without white space at its ends
abbrev pub prefix_word : List ℕ → List ℕ
prefix_word line = trim (before_first is_space line)

-- the text of a line after its first space, without white space at its ends
abbrev pub origin_word : List ℕ → List ℕ
origin_word line = trim (after_first is_space line)

-- the text is the AS number of the origin
abbrev pub IsAsnOrigin : List ℕ → Option ℕ → Type 0
IsAsnOrigin text None = ⊥
IsAsnOrigin text (Some n) = IsAsnText text n

-- the two words of a line are the prefix and the AS number of the route
abbrev pub AreRouteWords : List ℕ → Route → Type 0
AreRouteWords line = IsRouteBy (IsAsnOrigin (origin_word line)) (prefix_word line)

-- the line has no space, and would give a route if its first comma were a space
pub record HasCommaForSpace (line : List ℕ) : Type 0 where
  pub no_space : position_or_len is_space line ≡ length line
  pub route : Route
  pub writes : IsRouteBy (IsAsnOrigin (trim (after_first is_comma line))) (trim (before_first is_comma line)) route

-- the word has a tab, or it is an AS number
abbrev pub IsOtherWord : List ℕ → Type 0
IsOtherWord word = IsTrue (list_any (λ byte. byte == 9) word) ⊎ ((n : ℕ) × IsAsnText word n)

-- the first word of a line is not a prefix, because a tab follows the prefix or the AS precedes it
pub record HasOtherWord (line : List ℕ) : Type 0 where
  pub no_prefix : (p : FamilyPrefix) → ¬ IsPrefixText (prefix_word line) p
  pub other : IsOtherWord (prefix_word line)

-- the fault of a line whose first word is this one, by the first fault of both words
abbrev pub IsWordsFault : List ℕ → RouteFault → RouteFault → Type 0
IsWordsFault word (Prefix f) fault =
    (IsOtherWord word × (fault ≡ OtherWord)) ⊎ ((¬ IsOtherWord word) × (fault ≡ Prefix f))
IsWordsFault word first fault = fault ≡ first

-- The fault of the words of a line: a comma in place of the space, or else another first word, or else the first fault
-- of both words.
abbrev pub HaveWordsFault : List ℕ → RouteFault → Type 0
HaveWordsFault line fault =
    (HasCommaForSpace line × (fault ≡ CommaForSpace))
    ⊎ ((¬ HasCommaForSpace line) × HasOtherWord line × (fault ≡ OtherWord))
    ⊎ ((¬ HasCommaForSpace line) × (¬ HasOtherWord line)
    × HasFaultBy (IsNoAsnText (origin_word line)) (prefix_word line) fault)

-- the text is a prefix, a space and the AS number of the route
abbrev pub IsRouteText : List ℕ → Route → Type 0
IsRouteText text route = IsUtf8 text × AreRouteWords (trim text) route

-- the first fault of a text that is no such route
abbrev pub HasRouteTextFault : List ℕ → RouteFault → Type 0
HasRouteTextFault text fault = ((¬ IsUtf8 text) × (fault ≡ NotUtf8)) ⊎ (IsUtf8 text × HaveWordsFault (trim text) fault)

-- ---- a line of a dump

-- whether a byte is `|`, which separates two fields
abbrev pub is_bar : ℕ → Bool
is_bar byte = byte == 124

-- the fields of a line
abbrev pub fields_of : List ℕ → List (List ℕ)
fields_of line = slice_split is_bar line

-- the field of a line at an index
abbrev pub IsFieldAt : ℕ → List ℕ → List ℕ → Type 0
IsFieldAt n line text = slice_get (fields_of line) n ≡ Some text

-- the line has no field at this index
abbrev pub IsNoFieldAt : ℕ → List ℕ → Type 0
IsNoFieldAt n line = slice_get (fields_of line) n ≡ None

-- The first field of a line of a table whose path has the index n. `_AP` says that an identifier precedes the path (RFC
-- 8050, 4).
abbrev pub IsTableName : List ℕ → ℕ → Type 0
IsTableName name n =
    (((name ≡ codes "TABLE_DUMP") ⊎ (name ≡ codes "TABLE_DUMP2")) × (n ≡ 6))
    ⊎ ((name ≡ codes "TABLE_DUMP2_AP") × (n ≡ 7))

-- The first field of a line of a message between two BGP speakers, or of the state of their session (RFC 6396, 4.4). A
-- path has the index n. `_AP` says that an identifier precedes the path (RFC 8050, 3), `_ET` that the time has a part
-- of a second, and `_LOCAL` that the collector sent the message.
abbrev pub IsUpdateName : List ℕ → ℕ → Type 0
IsUpdateName name n =
    (((name ≡ codes "BGP4MP") ⊎ (name ≡ codes "BGP4MP_ET") ⊎ (name ≡ codes "BGP4MP_LOCAL")
    ⊎ (name ≡ codes "BGP4MP_ET_LOCAL")) × (n ≡ 6))
    ⊎ (((name ≡ codes "BGP4MP_AP") ⊎ (name ≡ codes "BGP4MP_ET_AP") ⊎ (name ≡ codes "BGP4MP_LOCAL_AP")
    ⊎ (name ≡ codes "BGP4MP_ET_LOCAL_AP")) × (n ≡ 7))

-- the line is from a message or a session, a path has the index n, and the third field is this text
pub record IsUpdate (line : List ℕ) (n : ℕ) (kind : List ℕ) : Type 0 where
  pub name : List ℕ
  pub name_is : IsFieldAt 0 line name
  pub update : IsUpdateName name n
  pub kind_is : IsFieldAt 2 line kind

-- the line has a route whose path has the index n: it is from a table, or its third field says that it announces
abbrev pub IsPathPlace : List ℕ → ℕ → Type 0
IsPathPlace line n =
    ((name : List ℕ) × IsFieldAt 0 line name × IsTableName name n) ⊎ IsUpdate line n (codes "A")

-- the line has no route: it withdraws one, or says how the state of a session changed
abbrev pub AnnouncesNothing : List ℕ → Type 0
AnnouncesNothing line = (n : ℕ) × (IsUpdate line n (codes "W") ⊎ IsUpdate line n (codes "STATE"))

-- the texts of the sixth field, which is the prefix, and of the field of the path
pub record AreDumpTexts (n : ℕ) (line prefix path : List ℕ) : Type 0 where
  pub prefix_is : IsFieldAt 5 line prefix
  pub path_is : IsFieldAt n line path

-- the last word of a path
abbrev pub last_word : List ℕ → List ℕ
last_word path = after_last is_space (trim path)

-- the word is a set of AS numbers: it begins with `{` and ends with `}`
pub record IsSetWord (word : List ℕ) : Type 0 where
  pub begins : slice_index word 0 ≡ 123
  pub ends : slice_index word (length word - 1) ≡ 125

-- The word ends a segment of a confederation (RFC 5065, 3): with `)` a sequence, with `]` a set. The segment may have
-- spaces, so the bracket that opens it need not be in the word.
abbrev pub IsConfedWord : List ℕ → Type 0
IsConfedWord word = (slice_index word (length word - 1) ≡ 41) ⊎ (slice_index word (length word - 1) ≡ 93)

-- The last word of a path that gives no origin (RFC 6811, 2). A path that ends in a set has none. The origin of an
-- empty path, and of one that ends in a segment of a confederation, is the speaker's own AS, which the line doesn't
-- have.
abbrev pub HasNoOrigin : List ℕ → Type 0
HasNoOrigin word = (word ≡ []) ⊎ IsSetWord word ⊎ IsConfedWord word

-- the origin that the last word of a path gives: unknown for a word without an origin, and else the word's AS number
abbrev pub IsWordOrigin : List ℕ → Option ℕ → Type 0
IsWordOrigin word None = HasNoOrigin word
IsWordOrigin word (Some n) = (¬ HasNoOrigin word) × IsAsnText word n

-- the last word of a path should give an origin, and is not an AS number
abbrev pub HasWordFault : List ℕ → Type 0
HasWordFault word = (¬ HasNoOrigin word) × IsNoAsnText word

-- the route of a dump's line whose path has the index n
abbrev pub IsDumpRoute : ℕ → List ℕ → Route → Type 0
IsDumpRoute n line route = (prefix : List ℕ) × (path : List ℕ) × AreDumpTexts n line prefix path
    × IsRouteBy (IsWordOrigin (last_word path)) prefix route

-- the fault of a dump's line: a field is missing, or the prefix or the origin has a fault
abbrev pub HasDumpFault : ℕ → List ℕ → RouteFault → Type 0
HasDumpFault n line fault =
    ((IsNoFieldAt 5 line ⊎ IsNoFieldAt n line) × (fault ≡ TooFewFields))
    ⊎ ((prefix : List ℕ) × (path : List ℕ) × AreDumpTexts n line prefix path
    × HasFaultBy (HasWordFault (last_word path)) prefix fault)

-- ---- any line

-- the line has no route of a dump
abbrev pub IsNoDump : List ℕ → Type 0
IsNoDump line = (n : ℕ) → ¬ IsPathPlace line n

-- the kind of a line
abbrev pub IsKindOf : List ℕ → Kind → Type 0
IsKindOf line (Dump n) = IsPathPlace line n × ¬ AnnouncesNothing line
IsKindOf line Skipped = AnnouncesNothing line
IsKindOf line Words = IsNoDump line × ¬ AnnouncesNothing line

-- the route of a line without white space at its ends
abbrev pub IsLineOf : List ℕ → Route → Type 0
IsLineOf line route =
    (IsNoDump line × AreRouteWords line route) ⊎ ((n : ℕ) × IsPathPlace line n × IsDumpRoute n line route)

-- the first fault of a line without white space at its ends
abbrev pub HasLineFault : List ℕ → RouteFault → Type 0
HasLineFault line fault =
    (IsNoDump line × HaveWordsFault line fault) ⊎ ((n : ℕ) × IsPathPlace line n × HasDumpFault n line fault)

-- what is read of a line without white space at its ends: its route, or nothing if it announces none
abbrev pub IsReadOf : List ℕ → Option Route → Type 0
IsReadOf line None = AnnouncesNothing line
IsReadOf line (Some route) = (¬ AnnouncesNothing line) × IsLineOf line route

-- the first fault of a line without white space at its ends, which may also announce nothing
abbrev pub HasReadFault : List ℕ → RouteFault → Type 0
HasReadFault line fault = (¬ AnnouncesNothing line) × HasLineFault line fault

-- what is read of a line: its route, or nothing if it announces none
abbrev pub IsReadLine : List ℕ → Option Route → Type 0
IsReadLine line read = IsUtf8 line × IsReadOf (trim line) read

-- the route of a line
abbrev pub IsRouteLine : List ℕ → Route → Type 0
IsRouteLine line route = IsReadLine line (Some route)

-- the line announces no route
abbrev pub IsSkippedLine : List ℕ → Type 0
IsSkippedLine line = IsReadLine line None

-- the first fault of a line
abbrev pub HasRouteFault : List ℕ → RouteFault → Type 0
HasRouteFault line fault = ((¬ IsUtf8 line) × (fault ≡ NotUtf8)) ⊎ (IsUtf8 line × HasReadFault (trim line) fault)

-- the text printed for a fault of a prefix
abbrev pub prefix_fault_text : ParsePrefixError → List ℕ
prefix_fault_text Empty = codes "empty string"
prefix_fault_text MissingLen = codes "missing length portion"
prefix_fault_text (InvalidAddr f) = codes "invalid address: " ++ address_fault_text f
prefix_fault_text (InvalidLen f) = codes "invalid length: " ++ number_fault_text f
prefix_fault_text (InvalidPrefix f) = prefix_error_text f

-- the text printed for a fault
abbrev pub route_fault_text : RouteFault → List ℕ
route_fault_text NotUtf8 = codes "not UTF-8"
route_fault_text TooFewFields = codes "too few fields"
route_fault_text CommaForSpace = codes "a comma where a space is expected"
route_fault_text OtherWord = codes "expected: PREFIX AS"
route_fault_text (Prefix f) = codes "invalid prefix: " ++ prefix_fault_text f
route_fault_text (Asn f) = codes "invalid AS number"
