mod Json
