use Rattle.cbor_values.proofs.SameNumber.{same_half, same_single, sign_half, sign_single}
use Rattle.cbor_values.proofs.laws.same_number.Goals as goal

pub returns-clause-half : goal.returns-clause-half
returns-clause-half c = same_half

pub returns-clause-single : goal.returns-clause-single
returns-clause-single c = same_single

pub returns-clause-half_sign : goal.returns-clause-half_sign
returns-clause-half_sign c = sign_half

pub returns-clause-single_sign : goal.returns-clause-single_sign
returns-clause-single_sign c = sign_single
