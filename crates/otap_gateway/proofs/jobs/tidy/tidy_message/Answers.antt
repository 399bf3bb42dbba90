use Rattle.otap_gateway.proofs.jobs.tidy.tidy_message.Goals as goal

pub tidy_request-requires : goal.tidy_request-requires
tidy_request-requires c = record { light = c.read_is_light.ensures c.args.signal c.args.bytes.now c.in-Ok.request c.in-Ok.ensures.reads }
