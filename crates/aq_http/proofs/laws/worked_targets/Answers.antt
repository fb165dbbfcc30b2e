use Rattle.std.proofs.Common.{refl, Some, None, [], ◌∷◌, ◌++◌}
use Rattle.std.specs.Prelude.{codes}
use Rattle.matchit.proofs.OnLiterals.{matchit_on_literals}
use Rattle.aq_base.specs.Calendar.{days_of_months, days_of_years}
use Rattle.aq_base.specs.declared.question.Topic.TheVariants.{Area, Combined, Completeness, Daily, Days, Decisive, Events, Export, Flags, Highest, Lines, Loads, Monitors, Pm10, Pm25, Records, Reply, Report, Reports, Sites, Value, WhatIf, Windows}
use Rattle.aq_rules.specs.Lines.Spellings.{site_in, year_in}
use Rattle.aq_rules.specs.Questions.Asking.{asked_in_path, question_of}
use Rattle.aq_rules.specs.Questions.QuestionExamples.{entries}
use Rattle.aq_rules.specs.Questions.Spelling.{area_word, assumed_in, assumed_list, combined_word, county_word, date_of, day_word, design_year, site_word, sites_word}
use Rattle.aq_rules.specs.Questions.Table.{pattern_of}
use Rattle.aq_http.specs.declared.verb.Verb.TheVariants.{Get, Other, Post}
use Rattle.aq_http.specs.Routes.{load_number, page_path, texts_in, with_routes}
use Rattle.aq_http.proofs.Routed.{found_walked, page_walked}
use Rattle.aq_http.proofs.Walking.{walk}
use Rattle.aq_http.proofs.laws.worked_targets.Goals as goal

pub returns : goal.returns
unfolding walk matchit_on_literals with_routes pattern_of page_path texts_in load_number asked_in_path question_of area_word assumed_in assumed_list combined_word county_word date_of day_word days_of_months days_of_years design_year site_in site_word sites_word year_in
returns c = record {
  head = refl;
  get = found_walked Get (codes "/loads/5") (Some Reply) refl refl refl;
  post = found_walked Post (codes "/loads/5") (Some Reply) refl refl refl;
  other = found_walked Other (codes "/loads/5") (Some Reply) refl refl refl;
  slash_at_the_end = λ i.
      found_walked Get (codes "/loads/5/") None refl refl refl i
      ∷ found_walked Post (codes "/loads/5/") None refl refl refl i
      ∷ found_walked Other (codes "/loads/5/") None refl refl refl i ∷ [];
  no_number = λ i.
      found_walked Get (codes "/loads/") None refl refl refl i
      ∷ found_walked Post (codes "/loads/") None refl refl refl i
      ∷ found_walked Other (codes "/loads/") None refl refl refl i ∷ [];
  no_slash = λ i.
      found_walked Get (codes "loads/5") None refl refl refl i
      ∷ found_walked Post (codes "loads/5") None refl refl refl i
      ∷ found_walked Other (codes "loads/5") None refl refl refl i ∷ [];
  leading_zero = λ i.
      found_walked Get (codes "/loads/05") (Some Reply) refl refl refl i
      ∷ found_walked Post (codes "/loads/05") (Some Reply) refl refl refl i
      ∷ found_walked Other (codes "/loads/05") (Some Reply) refl refl refl i ∷ [];
  not_decoded = found_walked Get (codes "/loads/%35") (Some Reply) refl refl refl;
  windows = found_walked Get (codes "/ozone/06-037-1103/windows/1990-01-02") (Some Windows) refl refl refl;
  days = found_walked Get (codes "/ozone/06-037-1103/days/2024") (Some Days) refl refl refl;
  pm25 = found_walked Get (codes "/pm25/06-037-1103/quarters/2024") (Some Pm25) refl refl refl;
  pm10 = found_walked Get (codes "/pm10/06-037-1103/quarters/2024") (Some Pm10) refl refl refl;
  value = found_walked Get (codes "/dv/O3-2015/06-037-1103/2024") (Some Value) refl refl refl;
  report = found_walked Get (codes "/report/PM10-24H-1987/2024") (Some Report) refl refl refl;
  export = found_walked Get (codes "/export/06-037-1103/44201/2024") (Some Export) refl refl refl;
  whatif = found_walked Get (codes "/whatif/O3-2015/06-037-1103/2024/7Y,12N") (Some WhatIf) refl refl refl;
  decisive = found_walked Get (codes "/decisive/O3-2015/06-037-1103/2024") (Some Decisive) refl refl refl;
  combined = found_walked Get (codes "/combined/O3-2015/06-037-1103/2024") (Some Combined) refl refl refl;
  area = found_walked Get (codes "/area/O3-2015/06-037/2024") (Some Area) refl refl refl;
  no_standard = found_walked Get (codes "/dv/O3-2016/06-037-1103/2024") (Some Value) refl refl refl;
  no_parameter = found_walked Get (codes "/export/06-037-1103/42602/2024") (Some Export) refl refl refl;
  misspelled_beside = found_walked Get (codes "/dv/O3-2016/06-37-1103/2024") (Some Value) refl refl refl;
  too_many_entries = found_walked Get (codes "/whatif/O3-2015/06-037-1103/2024/" ++ entries 65) (Some WhatIf) refl refl refl;
  twice = found_walked Get (codes "/area/O3-2015/06-037-1103,06-037-1103/2024") (Some Area) refl refl refl;
  pm10_pair = found_walked Get (codes "/combined/PM10-24H-1987/06-037-1103/2024") (Some Combined) refl refl refl;
  no_post = found_walked Post (codes "/export/06-037-1103/44201/2024") (Some Export) refl refl refl;
  further_slash = found_walked Get (codes "/export/06-037-1103/44201/2024/") None refl refl refl;
  sites = found_walked Get (codes "/sites") (Some Sites) refl refl refl;
  monitors = found_walked Get (codes "/monitors/06-037-1103") (Some Monitors) refl refl refl;
  events = found_walked Get (codes "/events/06-037-1103") (Some Events) refl refl refl;
  flags = found_walked Get (codes "/flags/06-037-1103/44201/2024") (Some Flags) refl refl refl;
  loads = found_walked Get (codes "/loads") (Some Loads) refl refl refl;
  daily = found_walked Get (codes "/daily/06-037-1103/44201/2024") (Some Daily) refl refl refl;
  highest = found_walked Get (codes "/highest/06-037-1103/44201/2024") (Some Highest) refl refl refl;
  completeness = found_walked Get (codes "/completeness/06-037-1103/44201/2024") (Some Completeness) refl refl refl;
  reports = found_walked Get (codes "/reports/2024") (Some Reports) refl refl refl;
  records = found_walked Get (codes "/records") (Some Records) refl refl refl;
  lines = found_walked Get (codes "/lines/06-037-1103/44201/2024") (Some Lines) refl refl refl;
  sites_slash = found_walked Get (codes "/sites/") None refl refl refl;
  sites_part = found_walked Get (codes "/sites/x") None refl refl refl;
  no_site = found_walked Get (codes "/monitors") None refl refl refl;
  bad_site = λ i.
      found_walked Get (codes "/monitors/6-37-1103") (Some Monitors) refl refl refl i
      ∷ found_walked Get (codes "/events/6-37-1103") (Some Events) refl refl refl i ∷ [];
  no_series = λ i.
      found_walked Get (codes "/flags/06-037-1103/42602/2024") (Some Flags) refl refl refl i
      ∷ found_walked Get (codes "/daily/06-037-1103/42602/2024") (Some Daily) refl refl refl i
      ∷ found_walked Get (codes "/highest/06-037-1103/42602/2024") (Some Highest) refl refl refl i
      ∷ found_walked Get (codes "/completeness/06-037-1103/42602/2024") (Some Completeness) refl refl refl i
      ∷ found_walked Get (codes "/lines/06-037-1103/42602/2024") (Some Lines) refl refl refl i ∷ [];
  before_1990 = λ i.
      found_walked Get (codes "/flags/06-037-1103/44201/1989") (Some Flags) refl refl refl i
      ∷ found_walked Get (codes "/daily/06-037-1103/44201/1989") (Some Daily) refl refl refl i
      ∷ found_walked Get (codes "/highest/06-037-1103/44201/1989") (Some Highest) refl refl refl i
      ∷ found_walked Get (codes "/completeness/06-037-1103/44201/1989") (Some Completeness) refl refl refl i
      ∷ found_walked Get (codes "/lines/06-037-1103/44201/1989") (Some Lines) refl refl refl i ∷ [];
  report_years = λ i.
      found_walked Get (codes "/reports/1991") (Some Reports) refl refl refl i
      ∷ found_walked Get (codes "/reports/1992") (Some Reports) refl refl refl i
      ∷ found_walked Get (codes "/reports/2059") (Some Reports) refl refl refl i
      ∷ found_walked Get (codes "/reports/2060") (Some Reports) refl refl refl i ∷ [];
  lists_take_no_post = λ i.
      found_walked Post (codes "/sites") (Some Sites) refl refl refl i
      ∷ found_walked Post (codes "/loads") (Some Loads) refl refl refl i
      ∷ found_walked Post (codes "/records") (Some Records) refl refl refl i ∷ [];
  lists_take_no_head = λ i.
      found_walked Other (codes "/sites") (Some Sites) refl refl refl i
      ∷ found_walked Other (codes "/loads") (Some Loads) refl refl refl i
      ∷ found_walked Other (codes "/records") (Some Records) refl refl refl i ∷ [];
  page_of_sites = λ i.
      page_walked Get (codes "/") (codes "/sites") (Some Sites) refl refl refl i
      ∷ page_walked Get (codes "/page/sites") (codes "/sites") (Some Sites) refl refl refl i
      ∷ page_walked Get (codes "/?a") (codes "/sites") (Some Sites) refl refl refl i ∷ [];
  page_of_value = page_walked Get (codes "/page/dv/O3-2015/06-037-1103/2024") (codes "/dv/O3-2015/06-037-1103/2024") (Some Value) refl refl refl;
  no_page = λ i.
      page_walked Get (codes "/page/export/06-037-1103/44201/2024") (codes "/export/06-037-1103/44201/2024") (Some Export) refl refl refl i
      ∷ page_walked Get (codes "/page/records") (codes "/records") (Some Records) refl refl refl i
      ∷ page_walked Get (codes "/page/lines/06-037-1103/44201/2024") (codes "/lines/06-037-1103/44201/2024") (Some Lines) refl refl refl i ∷ [];
  no_page_first = λ i.
      page_walked Post (codes "/page/records") (codes "/records") (Some Records) refl refl refl i
      ∷ page_walked Get (codes "/page/export/6-37-1103/44201/2024") (codes "/export/6-37-1103/44201/2024") (Some Export) refl refl refl i ∷ [];
  pages_take_get_alone = λ i.
      page_walked Post (codes "/page/sites") (codes "/sites") (Some Sites) refl refl refl i
      ∷ page_walked Other (codes "/page/sites") (codes "/sites") (Some Sites) refl refl refl i
      ∷ page_walked Post (codes "/") (codes "/sites") (Some Sites) refl refl refl i
      ∷ page_walked Post (codes "/page/loads/5") (codes "/loads/5") (Some Reply) refl refl refl i ∷ [];
  no_such_page = λ i.
      page_walked Get (codes "/page/nothing") (codes "/nothing") None refl refl refl i
      ∷ page_walked Get (codes "/page/") (codes "/") None refl refl refl i
      ∷ page_walked Post (codes "/page//sites") (codes "//sites") None refl refl refl i ∷ [];
  page_alone = found_walked Get (codes "/page") None refl refl refl;
  page_of_no_standard = page_walked Get (codes "/page/dv/O3-2016/06-037-1103/2024") (codes "/dv/O3-2016/06-037-1103/2024") (Some Value) refl refl refl;
  page_misspelled = page_walked Get (codes "/page/dv/O3-2015/06-037-1103/1991") (codes "/dv/O3-2015/06-037-1103/1991") (Some Value) refl refl refl;
}
