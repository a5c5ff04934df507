use Rattle.std.proofs.Common.{ap, refl, sym}
use Rattle.asn1_model.specs.Records.{bits, bmp, teletex, units}
use Rattle.asn1_types.specs.AnyStrings.{octet_kind}
use Rattle.asn1_types.specs.declared.any_string.StringKind.TheVariants as kinds
use Rattle.asn1_elements.proofs.StringsRead.{octets_are, read_of, teletex_octets_are}
use Rattle.asn1_elements.proofs.from_contents.read_string.Goals as goal

pub returns-in_ok-read_bits-in-Bits-clause-only : goal.returns-in_ok-read_bits-in-Bits-clause-only
returns-in_ok-read_bits-in-Bits-clause-only c = read_of c.args.kind kinds.Bits _ (bits c.in_ok-read_bits-in-Bits.field-0.items) c.args.octets.now c.in-Bits.is tt c.in_ok-read_bits-in-Bits.ensures.only refl

pub returns-in_ok-read_packed_bits-in-PackedBits-clause-only : goal.returns-in_ok-read_packed_bits-in-PackedBits-clause-only
returns-in_ok-read_packed_bits-in-PackedBits-clause-only c =
    read_of c.args.kind kinds.PackedBits _ (bits c.in_ok-read_packed_bits-in-PackedBits.field-0) c.args.octets.now c.in-PackedBits.is tt c.in_ok-read_packed_bits-in-PackedBits.ensures.only refl

pub returns-in_ok-read_named_bits-in-NamedBits-clause-only : goal.returns-in_ok-read_named_bits-in-NamedBits-clause-only
returns-in_ok-read_named_bits-in-NamedBits-clause-only c =
    let r = c.in_ok-read_named_bits-in-NamedBits.ensures.only in
    read_of c.args.kind kinds.NamedBits _ (bits r.list) c.args.octets.now c.in-NamedBits.is tt r.are (ap bits r.read_as)

pub returns-in_ok-from_slice-in-Octets-clause-only : goal.returns-in_ok-from_slice-in-Octets-clause-only
returns-in_ok-from_slice-in-Octets-clause-only c =
    let k = c.in-Octets.kind in
    read_of c.args.kind (kinds.Octets k) _ (units (octet_kind k) c.args.octets.now) c.args.octets.now c.in-Octets.is refl (octets_are k c.args.octets.now) (ap (units (octet_kind k)) (sym c.in_ok-from_slice-in-Octets.ensures.items))

pub returns-in_ok-read_ones-in-Teletex-clause-only : goal.returns-in_ok-read_ones-in-Teletex-clause-only
returns-in_ok-read_ones-in-Teletex-clause-only c =
    read_of c.args.kind kinds.Teletex _ (units teletex c.args.octets.now) c.args.octets.now c.in-Teletex.is refl (teletex_octets_are c.args.octets.now c.type_inv.octets) (ap (units teletex) (sym c.in_ok-read_ones-in-Teletex.ensures))

pub returns-in_ok-read_twos-in-Bmp-clause-only : goal.returns-in_ok-read_twos-in-Bmp-clause-only
returns-in_ok-read_twos-in-Bmp-clause-only c = read_of c.args.kind kinds.Bmp _ (units bmp c.in_ok-read_twos-in-Bmp.field-0.items) c.args.octets.now c.in-Bmp.is refl c.in_ok-read_twos-in-Bmp.ensures.only refl
