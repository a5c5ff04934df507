use Rattle.std.proofs.Common.{ap, filter, refl}
use Rattle.asn1_certificate_text.proofs.Base64.{symbol_is_inside}
use Rattle.asn1_certificate_text.specs.PemLines.{is_symbol}
use Rattle.asn1_certificate_text.specs.PemRefusals.{symbol_of}
use Rattle.asn1_certificate_text.proofs.pem.error_at.Goals as goal

pub returns-in-InvalidByte : goal.returns-in-InvalidByte
returns-in-InvalidByte c =
    let about = ap symbol_of c.in-InvalidByte.is in
    record {
      error = c.args.error;
      refused = c.requires.refused;
      symbol = c.in-InvalidByte.symbol;
      about = about;
      position_in_body = c.position_of_symbol.result;
      at_position = c.position_of_symbol.ensures.found (symbol_is_inside (filter is_symbol c.args.body.now) c.args.error _ c.requires.refused about);
      in_text = refl;
    }

pub returns-in-InvalidLastSymbol : goal.returns-in-InvalidLastSymbol
returns-in-InvalidLastSymbol c =
    let about = ap symbol_of c.in-InvalidLastSymbol.is in
    record {
      error = c.args.error;
      refused = c.requires.refused;
      symbol = c.in-InvalidLastSymbol.offset;
      about = about;
      position_in_body = c.position_of_symbol-in-InvalidLastSymbol.result;
      at_position = c.position_of_symbol-in-InvalidLastSymbol.ensures.found
          (symbol_is_inside (filter is_symbol c.args.body.now) c.args.error _ c.requires.refused about);
      in_text = refl;
    }
