use Rattle.std.proofs.Common.{◌∷◌, ◌++◌, ap, sym, ◌∙◌, refl, arith}
use Rattle.std.proofs.Math.Facts.{Fits-lt-pow}
use Rattle.asn1_tags.specs.Tags.{class_number}
use Rattle.asn1_items.specs.Numbers.{four_bytes}
use Rattle.asn1_items.specs.Headers.{Header}
use Rattle.asn1_items.proofs.Headers.{scope_header_are, scope_header_at, scope_header_in, scope_header_is}
use Rattle.asn1_items.proofs.Octets.{rest_is}
use Rattle.asn1_items.proofs.header.scope_header.Goals as goal

pub returns-clause-found : goal.returns-clause-found
returns-clause-found c = λ h e.
    let found = scope_header_is c.args.kind c.args.bytes.now c.in-Some.class h c.in-len9-up.len_at_least c.in-Some.ensures.number e in
    let p = c.from_be_bytes.ensures in
    let q = c.from_be_bytes-2.ensures in
    record {
      kind = ap (λ (g : Header). g.kind) found;
      tag = (let t = ap (λ (g : Header). g.tag) found in cc);
      content = ap (λ (g : Header). g.content) found;
      size = q ∙ ap (λ (g : Header). g.size) found;
      body = rest_is 9 c.args.bytes.now c.in-len9-up.len_at_least ∙ ap (λ (g : Header). g.body) found;
    }

pub returns-clause-only : goal.returns-clause-only
returns-clause-only c =
    let xs = c.args.bytes.now in
    let p = c.from_be_bytes.ensures in
    record {
      header = scope_header_in c.args.kind xs c.in-Some.class;
      at = scope_header_at c.args.kind xs c.in-Some.class c.in-len9-up.len_at_least c.in-Some.ensures.number;
      is = record { kind = refl; tag = cc; content = refl; size = c.from_be_bytes-2.ensures; body = rest_is 9 xs c.in-len9-up.len_at_least };
    }

pub returns-clause-are : goal.returns-clause-are
returns-clause-are c =
    let xs = c.args.bytes.now in
    let rest = rest_is 9 xs c.in-len9-up.len_at_least in
    record {
      kind_is = refl;
      are = scope_header_are xs c.in-Some.class c.from_be_bytes.result c.from_be_bytes-2.result c.in-len9-up.len_at_least (λ i. Fits-lt-pow (c.type_inv.bytes i)) c.in-Some.ensures.number c.from_be_bytes.ensures c.from_be_bytes-2.ensures ∙
          ap (λ l. class_number c.in-Some.class ∷ four_bytes c.from_be_bytes.result ++ four_bytes c.from_be_bytes-2.result ++ l) (sym rest);
      tag_fits = omega arith;
      size_fits = omega arith;
    }
