use Rattle.otap_signals.proofs.metrics.MetricSignalSignalTables.tables_come_back.Goals as goal

pub returns : goal.returns
returns c = λ groups is. record {
  same = c.tables_tell_the_same.ensures groups is.real is.profile is.light;
  light = c.rebuilt_is_no_heavier.ensures groups is.real is.profile is.light;
  clean = c.tables_have_no_defects.ensures groups is.real is.profile is.light;
  profile = c.tables_can_be_written.ensures groups is.real is.profile is.light;
  order = c.tables_by_type.ensures groups;
  items = c.each_metric_has_a_row.ensures groups;
}
