use Rattle.std.proofs.Common.{inl}
use Rattle.std.proofs.lemmas.Result.{MatchResult-weaker}
use Rattle.asn1_der.proofs.WrittenElements.{appended, scope_of}
use Rattle.asn1_der.proofs.buffer.DerBufferRecordBuffer.end_scope.Goals as goal

pub returns : goal.returns
returns c = λ h rs w wrote.
    let old = c.args.self.now in
    let s = scope_of old.outer.items c.pop.new.self.items c.in-Some.frame h rs old.bytes.items w c.in-Some.ensures.items wrote in
    MatchResult-weaker c.finish_scope.result
    (c.finish_scope.ensures h rs s.before s.front s.inside s.are s.starts s.begins s.tag s.content_order s.have_der)
    (λ done a. record {
      closed = a.is.closed;
      same = a.is.same;
      wrote = appended c.pop.new.self.items s.before c.finish_scope.new.bytes.items a.is.closed (record { added = a.added; is = a.is.has_der; joined = a.joined }) w s.outside;
    })
    (λ e none other. inl (none other))
