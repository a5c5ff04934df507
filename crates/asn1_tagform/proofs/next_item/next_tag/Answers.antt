use Rattle.asn1_tagform.proofs.PresenceByTag.{end_tells, has_header, header_tells}
use Rattle.asn1_tagform.proofs.next_item.next_tag.Goals as goal

pub returns-then-is_at_end : goal.returns-then-is_at_end
returns-then-is_at_end c = λ rs left. end_tells c.args.slices.now rs (c.is_at_end.ensures.at_end.0 c.if-is_at_end.true) left

pub returns-in_err-header : goal.returns-in_err-header
returns-in_err-header c = λ rs left. absurd (has_header c.args.slices.now rs (λ none. let wrong = c.is_at_end.ensures.at_end.1 none in cc) c.in_err-header.ensures.found left)

pub returns : goal.returns
returns c = λ rs left. header_tells c.args.slices.now c.in_ok-header.header.tag rs (λ none. let wrong = c.is_at_end.ensures.at_end.1 none in cc) (λ h e. (c.in_ok-header.ensures.found h e).tag) left
