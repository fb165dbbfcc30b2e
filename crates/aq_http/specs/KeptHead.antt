-- What contracts see of a head as the program keeps it.
use Rattle.aq_http.specs.declared.head.Head.TheInside.{Inside}
use Rattle.aq_http.specs.Places.{HeadPlaces}

abbrev pub places_of : Inside → HeadPlaces
places_of head = record {
  head_bytes = head.len;
  body_bytes = head.body;
  verb = head.verb;
  start = head.target.start;
  end = head.target.end;
  close = head.close;
}
