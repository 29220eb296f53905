-- What C gives and lends to a call, as the other crates' specs have it: as it is when it is looked at. Assumes nothing.
use Rattle.std.specs.Prelude.{◌≡◌, List, [], ◌∷◌, Float}
use Rattle.trace.specs.Trace.{Trace, trace_of}
use Rattle.window.specs.Pairs.{TracePair}
use Rattle.window.specs.Outputs.{Lent, Column, column, outputs_of}
use Rattle.moments.specs.HostCall.{ByteTrace, BytePair}
use Rattle.demands.specs.declared.lent as code

-- ---- given
abbrev pub doubles : code.Doubles.Doubles → Trace
doubles t = trace_of t.values.now t.has_map t.map.now

abbrev pub double_pair : code.DoublePair.DoublePair → TracePair
double_pair p = record { x = doubles p.x; y = doubles p.y }

abbrev pub hosted : code.Bytes.Bytes → ByteTrace
hosted t = record { bytes = t.values.now; mapped = t.has_map; map = t.map.now }

abbrev pub hosted_pair : code.BytePair.BytePair → BytePair
hosted_pair p = record { x = hosted p.x; y = hosted p.y }

-- ---- lent
abbrev pub decoded : code.Readings.Readings → List Float
decoded r = r.list.now

abbrev pub decoded_pair : code.ReadingPair.ReadingPair → List Float × List Float
decoded_pair r = (r.x.now, r.y.now)

-- a work slice and columns
abbrev pub lent_all : List Float → List Column → Lent
lent_all work cs = record { outputs = outputs_of cs []; work = work }

-- of one figure
abbrev pub lent : code.Figures.Figures → Lent
lent l = lent_all l.work.now (column l.figures.now l.present.now ∷ [])

-- of one figure with weights, which has no work slice
abbrev pub lent_column : code.Column.Column → Column
lent_column c = column c.figures.now c.present.now

-- of a variance, its lowest and its highest reading
abbrev pub lent_three : code.Variances.Variances → Lent
lent_three l =
    lent_all l.work.now
    (column l.figures.now l.present.now ∷ column l.lowest.now l.lowest_present.now ∷ column l.highest.now l.highest_present.now ∷ [])

-- ---- lists that are handed back: they are the very lists that were lent
abbrev pub same_readings : code.Readings.Readings → code.Readings.Readings → Type 0
same_readings l l' = l.list.ghost_name ≡ l'.list.ghost_name

abbrev pub same_reading_pair : code.ReadingPair.ReadingPair → code.ReadingPair.ReadingPair → Type 0
same_reading_pair l l' = (l.x.ghost_name ≡ l'.x.ghost_name) × (l.y.ghost_name ≡ l'.y.ghost_name)

abbrev pub same_column : code.Column.Column → code.Column.Column → Type 0
same_column l l' = (l.figures.ghost_name ≡ l'.figures.ghost_name) × (l.present.ghost_name ≡ l'.present.ghost_name)

abbrev pub same_figures : code.Figures.Figures → code.Figures.Figures → Type 0
same_figures l l' =
    (l.work.ghost_name ≡ l'.work.ghost_name) × (l.figures.ghost_name ≡ l'.figures.ghost_name)
    × (l.present.ghost_name ≡ l'.present.ghost_name)

abbrev pub same_variances : code.Variances.Variances → code.Variances.Variances → Type 0
same_variances l l' =
    (l.work.ghost_name ≡ l'.work.ghost_name) × (l.figures.ghost_name ≡ l'.figures.ghost_name)
    × (l.present.ghost_name ≡ l'.present.ghost_name)
    × (l.lowest.ghost_name ≡ l'.lowest.ghost_name) × (l.lowest_present.ghost_name ≡ l'.lowest_present.ghost_name)
    × (l.highest.ghost_name ≡ l'.highest.ghost_name) × (l.highest_present.ghost_name ≡ l'.highest_present.ghost_name)
