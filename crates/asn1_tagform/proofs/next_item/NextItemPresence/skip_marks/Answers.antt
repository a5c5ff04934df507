use Rattle.asn1_tagform.proofs.PresenceByTag.{passed}
use Rattle.asn1_tagform.proofs.next_item.NextItemPresence.skip_marks.Goals as goal

pub returns-clause-passed : goal.returns-clause-passed
returns-clause-passed c = λ rs have. passed rs _ have
