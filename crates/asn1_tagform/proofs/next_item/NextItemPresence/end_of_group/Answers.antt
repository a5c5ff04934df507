use Rattle.asn1_model.specs.Records.{group_end}
use Rattle.asn1_tagform.proofs.PresenceByTag.{mark_passed}
use Rattle.asn1_tagform.proofs.next_item.NextItemPresence.end_of_group.Goals as goal

pub returns-clause-passed : goal.returns-clause-passed
returns-clause-passed c = λ rest have. record { answer = tt; left = mark_passed group_end rest _ have }
