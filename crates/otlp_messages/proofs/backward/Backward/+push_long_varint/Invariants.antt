use Rattle.otlp_messages.proofs.backward.Backward.+push_long_varint.Given as goal

abbrev pub decreases-push_long_varint : goal.decreases-push_long_varint
decreases-push_long_varint l = l.value
