use Rattle.otap_signals.specs.BySignal.{meaning_by}
use Rattle.otap_consume.proofs.OpeningSteps.{outcome_checked, outcome_not_taken}
use Rattle.otap_consume.proofs.Regrouping.{outcome_refused, outcome_reset}
use Rattle.otap_consume.proofs.receiving_laws.checked_frames_have_outcomes.Goals as goal

pub returns-clause-accepted : goal.returns-clause-accepted
returns-clause-accepted c = λ old new frame batch made o. outcome_checked old new frame batch o made

pub returns-clause-not_taken : goal.returns-clause-not_taken
returns-clause-not_taken c = λ old mid new frame batch why refusal o stops broken is. outcome_not_taken old mid frame batch o new why refusal broken is stops

pub returns-clause-refused : goal.returns-clause-refused
returns-clause-refused c = λ old new frame refusal. outcome_refused (meaning_by old.signal) frame refusal old new

pub returns-clause-reset : goal.returns-clause-reset
returns-clause-reset c = λ old new frame. outcome_reset (meaning_by old.signal) frame old new
