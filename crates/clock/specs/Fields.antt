-- Document 01, 'An advance arrives at the board': the clock with one of its fields changed, and the fresh clock. By S-7
-- the clock has a field before document 01's, the rate, which nothing changes.
use Rattle.std.specs.Prelude.{ℕ, false}
use Rattle.clock.specs.declared.Offset.{Offset}
use Rattle.clock.specs.declared.Alarm.{Alarm}
use Rattle.clock.specs.declared.Shadow.{Shadow}
use Rattle.clock.specs.declared.HostTime.{HostTime}
use Rattle.clock.specs.declared.Clock.{Clock}

abbrev pub with_control : ℕ → Clock → Clock
with_control v k = record {
  rate = k.rate;
  control = v;
  seconds = k.seconds;
  subsecond = k.subsecond;
  offset = k.offset;
  alarm = k.alarm;
  shadow = k.shadow;
  poll = k.poll;
  alarm_shadow = k.alarm_shadow;
  host = k.host;
}

abbrev pub with_time : ℕ → ℕ → Clock → Clock
with_time s u k = record {
  rate = k.rate;
  control = k.control;
  seconds = s;
  subsecond = u;
  offset = k.offset;
  alarm = k.alarm;
  shadow = k.shadow;
  poll = k.poll;
  alarm_shadow = k.alarm_shadow;
  host = k.host;
}

abbrev pub with_offset : Offset → Clock → Clock
with_offset o k = record {
  rate = k.rate;
  control = k.control;
  seconds = k.seconds;
  subsecond = k.subsecond;
  offset = o;
  alarm = k.alarm;
  shadow = k.shadow;
  poll = k.poll;
  alarm_shadow = k.alarm_shadow;
  host = k.host;
}

abbrev pub with_alarm : Alarm → Clock → Clock
with_alarm a k = record {
  rate = k.rate;
  control = k.control;
  seconds = k.seconds;
  subsecond = k.subsecond;
  offset = k.offset;
  alarm = a;
  shadow = k.shadow;
  poll = k.poll;
  alarm_shadow = k.alarm_shadow;
  host = k.host;
}

abbrev pub with_shadow : Shadow → Clock → Clock
with_shadow s k = record {
  rate = k.rate;
  control = k.control;
  seconds = k.seconds;
  subsecond = k.subsecond;
  offset = k.offset;
  alarm = k.alarm;
  shadow = s;
  poll = k.poll;
  alarm_shadow = k.alarm_shadow;
  host = k.host;
}

abbrev pub with_poll : ℕ → Clock → Clock
with_poll p k = record {
  rate = k.rate;
  control = k.control;
  seconds = k.seconds;
  subsecond = k.subsecond;
  offset = k.offset;
  alarm = k.alarm;
  shadow = k.shadow;
  poll = p;
  alarm_shadow = k.alarm_shadow;
  host = k.host;
}

abbrev pub with_alarm_shadow : Shadow → Clock → Clock
with_alarm_shadow s k = record {
  rate = k.rate;
  control = k.control;
  seconds = k.seconds;
  subsecond = k.subsecond;
  offset = k.offset;
  alarm = k.alarm;
  shadow = k.shadow;
  poll = k.poll;
  alarm_shadow = s;
  host = k.host;
}

-- call 01 'sets the two host fields and makes no alarm check'
abbrev pub with_host : HostTime → Clock → Clock
with_host h k = record {
  rate = k.rate;
  control = k.control;
  seconds = k.seconds;
  subsecond = k.subsecond;
  offset = k.offset;
  alarm = k.alarm;
  shadow = k.shadow;
  poll = k.poll;
  alarm_shadow = k.alarm_shadow;
  host = h;
}

-- S-7: 'A fresh board of which no rate is said, as in `listrun`, document 01's settings and refusals, is at
-- 48,000,000.'
abbrev pub fresh_rate : ℕ
fresh_rate = 48_000_000

-- 'everything zero except clock control 1', at the rate that it takes
abbrev pub fresh_clock_at : ℕ → Clock
fresh_clock_at rate = record {
  rate = rate;
  control = 1;
  seconds = 0;
  subsecond = 0;
  offset = record { negative = false; seconds = 0; nanoseconds = 0 };
  alarm = record { enable = 0; seconds = 0; pending = false; armed = false };
  shadow = record { value = 0; mask = 0 };
  poll = 0;
  alarm_shadow = record { value = 0; mask = 0 };
  host = record { seconds = 0; nanoseconds = 0 };
}

-- the fresh clock without a given rate
abbrev pub fresh_clock : Clock
fresh_clock = fresh_clock_at fresh_rate
