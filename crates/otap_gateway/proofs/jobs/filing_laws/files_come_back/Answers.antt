use Rattle.otap_gateway.proofs.FilesBack.{comes_back}
use Rattle.otap_gateway.proofs.jobs.filing_laws.files_come_back.Goals as goal

pub returns : goal.returns
returns c = comes_back c.plain_payloads_are_read.ensures.again
