use Rattle.std.proofs.Common.{◌≡◌, Bool, false, inl, inr, refl, rules, true}
use Rattle.std.specs.Prelude.{◌⊎◌}
use Rattle.asn1_ldap_stream.proofs.UsedOctets.{not_both}
use Rattle.asn1_ldap_stream.specs.Octets.{BeginsNoMessage, EndsInside}
use Rattle.fanughespu.proofs.ldap.fan_ldap_lines.Goals as goal

pub returns-in-Ok-put-clause-ended : goal.returns-in-Ok-put-clause-ended
returns-in-Ok-put-clause-ended c = λ lines at are inside _.
    not_both 135 c.args.octets.now c.in-Ok.lines.text.items lines c.in-Ok.lines.used at c.in-Ok.ensures.lines are
    (c.in-Ok.ensures.damaged c.if-lines.true) inside

pub returns-clause-ends : goal.returns-clause-ends
returns-clause-ends c = search rules

pub returns-clause-faulty : goal.returns-clause-faulty
returns-clause-faulty c = λ lines at are stop ok.
    not_both 135 c.args.octets.now lines c.in-Ok.lines.text.items at c.in-Ok.lines.used are c.in-Ok.ensures.lines stop (returns-clause-ends c ok)

-- the octets tell which of the two follows
either : (damaged : Bool) (A B : Type 0) → (damaged ≡ false → A) → (damaged ≡ true → B) → A ⊎ B
either false A B ends stops = inl (ends refl)
either true A B ends stops = inr (stops refl)

pub returns-clause-needed : goal.returns-clause-needed
returns-clause-needed c = λ _.
    either c.in-Ok.lines.is_damaged (EndsInside c.args.octets.now c.in-Ok.lines.used) (BeginsNoMessage c.args.octets.now c.in-Ok.lines.used)
    c.in-Ok.ensures.ends c.in-Ok.ensures.damaged
