mod StillSample
