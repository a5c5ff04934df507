use Rattle.std.proofs.Common.{arith}
use Rattle.std.proofs.lemmas.Result.{err_from_is_err_and}
use Rattle.asn1_items.specs.Contents.{content_of}
use Rattle.asn1_items.proofs.SizedItems.{measured, placed}
use Rattle.asn1_items.proofs.scalars.push_measured.Goals as goal

pub returns-in_err-write_length-clause-too_long : goal.returns-in_err-write_length-clause-too_long
returns-in_err-write_length-clause-too_long c =
    let q = placed (content_of c.args.content) c.args.tag c.args.bytes.now.items _ _ c.kind.result c.len-start.result c.in_ok-push_content_header.ensures.appended c.kind.ensures
    (omega (arith, c.len-start.ensures, c.push_content_header.new.bytes.ok.0)) c.in_ok-append_to.ensures.appended in
    let p = err_from_is_err_and c.from_residual-in_err-write_length.result c.from_residual-in_err-write_length.ensures.1 in
    rw (p.1) (λ _. (q.inside, q.is, (c.in_err-write_length.ensures.written q.front q.inside 0 (omega arith) q.filled_is q.starts).1))

pub returns-clause-appended : goal.returns-clause-appended
returns-clause-appended c =
    let q = placed (content_of c.args.content) c.args.tag c.args.bytes.now.items _ _ c.kind.result c.len-start.result c.in_ok-push_content_header.ensures.appended c.kind.ensures
    (omega (arith, c.len-start.ensures, c.push_content_header.new.bytes.ok.0)) c.in_ok-append_to.ensures.appended in
    let done = c.in_ok-write_length.ensures.written q.front q.inside 0 (omega arith) q.filled_is q.starts in
    measured (content_of c.args.content) c.args.tag c.args.bytes.now.items _ _ c.len-start.result q c.in_ok-push_content_header.ensures.fits done.0 done.1
