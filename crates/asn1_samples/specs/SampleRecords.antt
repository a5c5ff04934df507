-- The records of a value of each sample type, the same for every codec: a line for each component or alternative.
use Rattle.std.specs.Prelude.{ℕ, ℤ, Bool, false, List, [], ◌∷◌, ◌++◌, Option, None, Some, pos, codes, nat_eq}
use Rattle.std.proofs.Math.Bool.{beq}
use Rattle.std.specs.Option.{option_map}
use Rattle.std.specs.String.{string_bytes}
use Rattle.std.specs.declared.alloc.Global.{Global}
use Rattle.std.specs.declared.string.String.{String}
use Rattle.asn1_components.specs.Enumerations.{number_of}
use Rattle.asn1_model.specs.Composites.{alternative_records, default_records, explicit_tag_records, group_records, option_records, sequence_records, set_records}
use Rattle.asn1_model.specs.Meaning.{Meaning, own_records}
use Rattle.asn1_model.specs.RecordTables.{Row, Table}
use Rattle.asn1_model.specs.Records.{Content, Record, octet}
use Rattle.asn1_model.specs.TaggedTypes.{tagged}
use Rattle.asn1_tags.specs.declared.tags.Tag.{Tag}
use Rattle.asn1_types.specs.Words.{Range, boolean, characters_of, context, discriminant, ia5, in_additions, in_root, labels_of, rows, null, number, numeric, open_type, scalar, table_of, unconstrained, units, universal, utf8, values_of, visible}
use Rattle.asn1_samples.specs.contracts.badge.BadgeFieldTable.TheImpl.{ghosts as badge}
use Rattle.asn1_samples.specs.contracts.color.ColorEnumeratedItems.TheImpl.{ghosts as color}
use Rattle.asn1_samples.specs.contracts.color.ColorPartialEq.TheImpl.{ghosts as colors}
use Rattle.asn1_samples.specs.contracts.contact.ContactFieldTable.TheImpl.{ghosts as contact}
use Rattle.asn1_samples.specs.contracts.corner.CornerChoice.TheImpl.{ghosts as corner}
use Rattle.asn1_samples.specs.contracts.envelope.EnvelopeFieldTable.TheImpl.{ghosts as envelope}
use Rattle.asn1_samples.specs.contracts.gauge.GaugeFieldTable.TheImpl.{ghosts as gauge}
use Rattle.asn1_samples.specs.contracts.labelled.LabelledFieldTable.TheImpl.{ghosts as labelled}
use Rattle.asn1_samples.specs.contracts.notice.NoticeFieldTable.TheImpl.{ghosts as notice}
use Rattle.asn1_samples.specs.contracts.person.PersonFieldTable.TheImpl.{ghosts as person}
use Rattle.asn1_samples.specs.contracts.profile.ProfileFieldTable.TheImpl.{ghosts as profile}
use Rattle.asn1_samples.specs.contracts.settings.SettingsFieldTable.TheImpl.{ghosts as settings}
use Rattle.asn1_samples.specs.contracts.shape.ShapeAsnType.TheImpl.{ghosts as shapes}
use Rattle.asn1_samples.specs.contracts.shape.ShapeChoice.TheImpl.{ghosts as shape}
use Rattle.asn1_samples.specs.contracts.ticket.TicketFieldTable.TheImpl.{ghosts as ticket}
use Rattle.asn1_samples.specs.contracts.visit.VisitFieldTable.TheImpl.{ghosts as visit}
use Rattle.asn1_samples.specs.declared.badge.Badge.{Badge}
use Rattle.asn1_samples.specs.declared.color.Color.{Color}
use Rattle.asn1_samples.specs.declared.color.Color.TheVariants.{Red, Green, Blue}
use Rattle.asn1_samples.specs.declared.contact.Contact.{Contact}
use Rattle.asn1_samples.specs.declared.corner.Corner.{Corner}
use Rattle.asn1_samples.specs.declared.corner.Corner.TheVariants.{Left, Right}
use Rattle.asn1_samples.specs.declared.envelope.Envelope.{Envelope}
use Rattle.asn1_samples.specs.declared.gauge.Gauge.{Gauge}
use Rattle.asn1_samples.specs.declared.labelled.Labelled.{Labelled}
use Rattle.asn1_samples.specs.declared.notice.Notice.{Notice}
use Rattle.asn1_samples.specs.declared.person.Person.{Person}
use Rattle.asn1_samples.specs.declared.plate.Plate.{Plate}
use Rattle.asn1_samples.specs.declared.profile.Profile.{Profile}
use Rattle.asn1_samples.specs.declared.settings.Settings.{Settings}
use Rattle.asn1_samples.specs.declared.shape.Shape.{Shape}
use Rattle.asn1_samples.specs.declared.shape.Shape.TheVariants.{Dot, Ring, Inner}
use Rattle.asn1_samples.specs.declared.ticket.Ticket.{Ticket}
use Rattle.asn1_samples.specs.declared.visit.Visit.{Visit}

-- a value under a tag that holds no others: of a type of this name, without constraints
abbrev simple : List ℕ → Tag → Content → List Record
simple name t content = scalar t unconstrained (Some name) content ∷ []

abbrev null_value : Tag → List Record
null_value t = simple (codes "NULL") t null

abbrev boolean_value : Tag → Bool → List Record
boolean_value t b = simple (codes "BOOLEAN") t (boolean b)

abbrev integer : Tag → ℤ → List Record
integer t z = simple (codes "INTEGER") t (number z)

abbrev utf8_string : Tag → String Global → List Record
utf8_string t text = simple (codes "UTF8String") t (units utf8 (string_bytes text))

abbrev octet_string : Tag → List ℕ → List Record
octet_string t octets = simple (codes "OCTET_STRING") t (units octet octets)

abbrev visible_string : Tag → List ℕ → List Record
visible_string t text = simple (codes "VisibleString") t (units visible text)

abbrev numeric_string : Tag → List ℕ → List Record
numeric_string t text = simple (codes "NumericString") t (units numeric text)

abbrev ia5_string : Tag → List ℕ → List Record
ia5_string t text = simple (codes "IA5String") t (units ia5 text)

-- INTEGER (0..255), and another limit
abbrev up_to : ℕ → Tag → ℕ → List Record
up_to limit t n = scalar t (values_of (Range (Some (pos 0)) (Some (pos limit)))) (Some (codes "INTEGER")) (number (pos n)) ∷ []

-- OPTIONAL: a component of the root under this tag, or the mark that it is absent
abbrev optional : {W : Type 0} → Tag → (Tag → W → List Record) → Option W → List Record
optional t records_of value = option_records in_root t (option_map (records_of t) value)

-- Person ::= SEQUENCE { age INTEGER, name UTF8String }
abbrev pub person_records : Person → List Record
person_records p = sequence_records (universal 16) (rows person.components) (Some (codes "Person")) (
    integer (universal 2) p.age ++
    utf8_string (universal 12) p.name ++ [])

-- Notice ::= SEQUENCE { id [0] INTEGER (0..255), urgent [1] EXPLICIT BOOLEAN OPTIONAL, text [2] UTF8String }
abbrev pub notice_records : Notice → List Record
notice_records n = sequence_records (universal 16) (rows notice.components) (Some (codes "Notice")) (
    up_to 255 (context 0) n.id ++
    optional (context 1) (λ t b. explicit_tag_records t (Some (codes "BOOLEAN")) (boolean_value (universal 1) b)) n.urgent ++
    utf8_string (context 2) n.text ++ [])

-- Pair{T, U} ::= SEQUENCE { first T, second [0] U OPTIONAL }
abbrev pub pair_records : {T U : Type 0} → Table Row → Meaning T → Meaning U → T → Option U → List Record
pair_records table t u first second = sequence_records (universal 16) table (Some (codes "Pair")) (
    own_records t first ++
    optional (context 0) (λ tag. (tagged tag u).records) second ++ [])

-- Color ::= ENUMERATED { red(0), green(1), ..., blue(5) }
abbrev color_item : ℕ → List Record
color_item n = simple (codes "Color") (universal 10) (discriminant (labels_of color.enumeration) (pos n))

abbrev pub color_records : Color → List Record
color_records Red = color_item 0
color_records Green = color_item 1
color_records Blue = color_item 5

-- one under a tag, by its number
abbrev color_value : Tag → Color → List Record
color_value t c = simple (codes "Color") t (discriminant (labels_of color.enumeration) (number_of colors.eq color.enumeration c))

-- [[ phone [3] NumericString OPTIONAL, mail [4] IA5String OPTIONAL ]]
abbrev contact_records : Contact → List Record
contact_records c =
    optional (context 3) numeric_string c.phone ++
    optional (context 4) ia5_string c.mail ++ []

-- Profile ::= SEQUENCE {
--     nick [0] UTF8String OPTIONAL, level [1] INTEGER (0..255), color [2] Color DEFAULT red, ..., [[ the contact ]]
-- }
abbrev pub profile_records : Profile → List Record
profile_records p = sequence_records (universal 16) (rows profile.components) (Some (codes "Profile")) (
    optional (context 0) utf8_string p.nick ++
    up_to 255 (context 1) p.level ++
    default_records in_root (colors.eq p.color Red) (context 2) (color_value (context 2) p.color) ++
    group_records (rows contact.components) (option_map contact_records p.contact) ++ [])

-- Visit ::= SEQUENCE { day [0] INTEGER (0..65535), ..., [[ the contact ]], note [5] UTF8String OPTIONAL }
abbrev pub visit_records : Visit → List Record
visit_records v = sequence_records (universal 16) (rows visit.components) (Some (codes "Visit")) (
    up_to 65535 (context 0) v.day ++
    group_records (rows contact.components) (option_map contact_records v.contact) ++
    option_records in_additions (context 5) (option_map (utf8_string (context 5)) v.note) ++ [])

-- Corner ::= CHOICE { left BOOLEAN, right OCTET STRING }
abbrev corner_alternative : Tag → List Record → List Record
corner_alternative t rs = alternative_records t unconstrained (table_of corner.alternatives) (Some (codes "Corner")) rs

abbrev pub corner_records : Corner → List Record
corner_records (Left b) = corner_alternative (universal 1) (boolean_value (universal 1) b)
corner_records (Right octets) = corner_alternative (universal 4) (octet_string (universal 4) octets)

-- Shape ::= CHOICE { dot NULL, ring [0] INTEGER (0..65535), inner Corner }
abbrev shape_alternative : Tag → List Record → List Record
shape_alternative t rs = alternative_records t unconstrained (table_of shape.alternatives) (Some (codes "Shape")) rs

abbrev pub shape_records : Shape → List Record
shape_records (Dot _) = shape_alternative (universal 5) (null_value (universal 5))
shape_records (Ring width) = shape_alternative (context 0) (up_to 65535 (context 0) width)
shape_records (Inner (Left b)) = shape_alternative (universal 1) (corner_records (Left b))
shape_records (Inner (Right octets)) = shape_alternative (universal 4) (corner_records (Right octets))

-- Badge ::= SET { id INTEGER (0..4294967295), label VisibleString OPTIONAL, shape Shape }
abbrev pub badge_records : Badge → List Record
badge_records b = set_records (universal 17) (rows badge.components) (Some (codes "Badge")) (
    up_to 4294967295 (universal 2) b.id ++
    optional (universal 26) visible_string b.label ++
    own_records shapes.meaning b.shape ++ [])

-- Ticket ::= SET { seat [0] INTEGER (0..65535), name [1] UTF8String OPTIONAL, paid [2] BOOLEAN DEFAULT FALSE }
abbrev pub ticket_records : Ticket → List Record
ticket_records t = set_records (universal 17) (rows ticket.components) (Some (codes "Ticket")) (
    up_to 65535 (context 0) t.seat ++
    optional (context 1) utf8_string t.name ++
    default_records in_root (beq t.paid false) (context 2) (boolean_value (context 2) t.paid) ++ [])

-- Gauge ::= SET { level INTEGER, limit [0] INTEGER OPTIONAL, unit [1] UTF8String }
abbrev pub gauge_records : Gauge → List Record
gauge_records g = set_records (universal 17) (rows gauge.components) (Some (codes "Gauge")) (
    integer (universal 2) (pos g.level) ++
    optional (context 0) (λ t n. integer t (pos n)) g.limit ++
    utf8_string (context 1) g.unit ++ [])

-- Envelope ::= SEQUENCE { kind INTEGER (0..255), body ANY }, where ANY is an open type
abbrev pub envelope_records : Envelope → List Record
envelope_records e = sequence_records (universal 16) (rows envelope.components) (Some (codes "Envelope")) (
    up_to 255 (universal 2) e.kind ++
    open_type None e.body ∷ [])

-- Labelled ::= SEQUENCE { key [0] INTEGER (0..255), note [1] INTEGER (0..255) }
abbrev labelled_value : Tag → Labelled → List Record
labelled_value t l = sequence_records t (rows labelled.components) (Some (codes "Labelled")) (
    up_to 255 (context 0) l.key ++
    up_to 255 (context 1) l.note ++ [])

abbrev pub labelled_records : Labelled → List Record
labelled_records = labelled_value (universal 16)

-- Settings ::= SEQUENCE { entry [0] Labelled DEFAULT { key 1, note 0 } }, of which every entry with the key 1 is the default
abbrev pub settings_records : Settings → List Record
settings_records s = sequence_records (universal 16) (rows settings.components) (Some (codes "Settings")) (
    default_records in_root (nat_eq s.entry.key 1) (context 0) (labelled_value (context 0) s.entry) ++ [])

-- Plate ::= VisibleString (FROM ("A" | "B" | "C"))
abbrev pub plate_records : Plate → List Record
plate_records plate = scalar (universal 26) (characters_of (codes "ABC")) (Some (codes "Plate")) (units visible plate.0) ∷ []
